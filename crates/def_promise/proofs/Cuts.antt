-- Windows cut in two at an offset. Assumes nothing.
use Rattle.std.proofs.Common.{◌≡◌, refl, sym, ap, ◌∙◌, subst, List, ◌++◌, ℕ, ◌+◌, ◌-◌, ◌≤◌, arith, length, take, drop, length-take, length-drop, length-append, take-append-drop, drop-drop, take-add, take_at, drop_at}
use Rattle.def_meaning.specs.Values.{Bytes}
use Rattle.def_meaning.proofs.ValueLaws.{bytes_left_lem, bytes_right}
use Rattle.checkdoors.specs.Doors.{window}

pub part_length : (hay : List ℕ) (a b : ℕ) → a ≤ b → b ≤ length hay → length (window hay a b) ≡ b - a
part_length hay a b d l = omega (arith, length-take (b - a) (drop a hay), length-drop a hay)

pub part_bytes : (hay : List ℕ) (a b : ℕ) → Bytes hay → Bytes (window hay a b)
part_bytes hay a b y =
    bytes_left_lem (take (b - a) (drop a hay)) (drop (b - a) (drop a hay))
    (subst Bytes (sym (take-append-drop (b - a) (drop a hay))) (bytes_right (take a hay) (drop a hay) (subst Bytes (sym (take-append-drop a hay)) y)))

-- a window is its part before an offset and its part behind
pub parts : (hay : List ℕ) (s n e : ℕ) → s ≤ n → n ≤ e → window hay s e ≡ window hay s n ++ window hay n e
parts hay s n e d g =
    let x : e - s ≡ (n - s) + (e - n) = omega arith in
    let y : s + (n - s) ≡ n = omega arith in
    ap (λ (k : ℕ). take k (drop s hay)) x
    ∙ take-add (n - s) (e - n) (drop s hay)
    ∙ ap (λ (l : List ℕ). take (n - s) (drop s hay) ++ take (e - n) l) (drop-drop (n - s) s hay ∙ ap (λ (k : ℕ). drop k hay) y)

-- one list cut twice at one place
cut_once : (a v x y : List ℕ) → a ++ v ≡ x ++ y → length a ≡ length x → (a ≡ x) × (v ≡ y)
cut_once a v x y h l = (
  sym (take_at a v (length x) l) ∙ ap (take (length x)) h ∙ take_at x y (length x) refl,
  sym (drop_at a v (length x) l) ∙ ap (drop (length x)) h ∙ drop_at x y (length x) refl,
)

-- whatever splits a window is its two parts at some offset
pub record Cut (hay a v : List ℕ) (s e : ℕ) : Type 0 where
  pub at : ℕ
  pub after : s ≤ at
  pub before : at ≤ e
  pub from_end : at ≡ e - length v
  pub from_start : at ≡ s + length a
  pub front : a ≡ window hay s at
  pub back : v ≡ window hay at e

pub cut : (hay a v : List ℕ) (s e : ℕ) → s ≤ e → e ≤ length hay → window hay s e ≡ a ++ v → Cut hay a v s e
cut hay a v s e d l h =
    let n : ℕ = s + length a in
    let x : length a + length v ≡ e - s = sym (length-append a v) ∙ sym (ap length h) ∙ part_length hay s e d l in
    let lo : s ≤ s + length a = omega arith in
    let hi : s + length a ≤ e = omega arith in
    let y = part_length hay s (s + length a) lo (omega arith) in
    let z : length a ≡ length (window hay s (s + length a)) = omega (arith, y) in
    let both = cut_once a v (window hay s (s + length a)) (window hay (s + length a) e) (sym h ∙ parts hay s (s + length a) e lo hi) z in
    record { at = s + length a; after = lo; before = hi; from_end = omega arith; from_start = refl; front = both.0; back = both.1 }
