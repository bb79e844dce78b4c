-- What is known of the doors of the checks. Assumes nothing.
use Rattle.std.proofs.Common.{◌≡◌, refl, sym, ap, ap₂, ◌∙◌, true, ◌↔◌, List, [], ◌∷◌, reverse, ℕ, zero, suc, ◌+◌, ◌-◌, ◌≤◌, ◌<◌, arith, le-leb, length, take, drop, get_or, length-take, length-drop, ext_get_or, get_or-take, get_or-drop, drop-drop, Bor, Result, Ok, Err, Some, None, Option as Found}
use Rattle.std.proofs.Math.Option.{Option, none, some}
use Rattle.std.proofs.lemmas.List.{reverse-reverse}
use Rattle.std.proofs.Math.ListN.{length-reverse}
use Rattle.base.proofs.RefusalLaws.{number_one}
use Rattle.def_meaning.specs.Choices.{short, long, Nowhere, FirstForward, FirstReverse}
use Rattle.def_meaning.specs.Rows.{forward, backward}
use Rattle.def_meaning.specs.Words.{prog, sound}
use Rattle.def_meaning.proofs.FirstLaws as first
use Rattle.def_meaning.proofs.WordSpans.{sound_length}
use Rattle.steps.specs.Steps.{answer}
use Rattle.steps.proofs.Answers.{left_fits, left_part}
use Rattle.base.specs.declared.Refusal.{Refusal}
use Rattle.checkdoors.specs.Doors.{found, no_match, check_said, window, refusal, unless, end_at, start_at, forward_says, reverse_says, left_or, unless_empty, left_says, left_from, left_at, Answered, HandsBack}
use Rattle.checkdoors.proofs.DoorLaws.{fine, window_length, passed, forward_checked, reverse_checked, left_checked}

-- an answer is known by what it says
pub said_one : (r q : Result (Found ℕ) Refusal) → check_said r ≡ check_said q → r ≡ q
said_one (Ok (Some n)) (Ok (Some m)) e = let z : n ≡ m = cc in ap (λ (k : ℕ). Ok (Some k)) z
said_one (Ok (Some n)) (Ok None) e = let z : ◌≡◌ {A = ℕ} 0 1 = cc in absurd (omega arith)
said_one (Ok (Some n)) (Err x) e = let z : ◌≡◌ {A = ℕ} 0 1 = cc in absurd (omega arith)
said_one (Ok None) (Ok (Some m)) e = let z : ◌≡◌ {A = ℕ} 0 1 = cc in absurd (omega arith)
said_one (Ok None) (Ok None) e = refl
said_one (Ok None) (Err x) e = let z : ◌≡◌ {A = ℕ} 0 1 = cc in absurd (omega arith)
said_one (Err x) (Ok (Some m)) e = let z : ◌≡◌ {A = ℕ} 0 1 = cc in absurd (omega arith)
said_one (Err x) (Ok None) e = let z : ◌≡◌ {A = ℕ} 0 1 = cc in absurd (omega arith)
said_one (Err x) (Err y) e = ap Err (number_one x y (cc))

-- so each door's promise leaves one outcome; what is lent to it is only read
module _ (ws hay : List ℕ) (s e : ℕ) where
  pub forward_one : (r q : Result (Found ℕ) Refusal) → Answered (forward_says ws hay s e) hay r → Answered (forward_says ws hay s e) hay q → r ≡ q
  forward_one r q a b = said_one r q (a.says ∙ sym b.says)

  pub reverse_one : (r q : Result (Found ℕ) Refusal) → Answered (reverse_says ws hay s e) hay r → Answered (reverse_says ws hay s e) hay q → r ≡ q
  reverse_one r q a b = said_one r q (a.says ∙ sym b.says)

-- the part that the second door hands back is one: there are no two with these bytes at this place
pub left_one : (ws : List ℕ) (hay : Bor (List ℕ)) (s e : ℕ) (r q : Bor (List ℕ)) → HandsBack ws hay s e r → HandsBack ws hay s e q → (r.now ≡ q.now) × (r.ref_ptr ≡ q.ref_ptr)
left_one ws hay s e r q a b = (a.left ∙ sym b.left, a.lies ∙ sym b.lies)

-- bytes outside the window never sway an answer: two haystacks that hold the window and agree in it get the same
module _ (ws hay hay' : List ℕ) (s e : ℕ) where
  same_refusal : e ≤ length hay → e ≤ length hay' → refusal ws (length hay) s e ≡ refusal ws (length hay') s e
  unfolding refusal
  same_refusal h g = rw (le-leb e (length hay) h, le-leb e (length hay') g)

  module _ (h : e ≤ length hay) (g : e ≤ length hay') (w : window hay s e ≡ window hay' s e) where
    pub forward_window : forward_says ws hay s e ≡ forward_says ws hay' s e
    unfolding forward_says
    forward_window = ap₂ (λ (x : Option ℕ) (y : List ℕ). unless x (end_at e (forward (prog ws) y))) (same_refusal h g) w

    pub reverse_window : reverse_says ws hay s e ≡ reverse_says ws hay' s e
    unfolding reverse_says
    reverse_window = ap₂ (λ (x : Option ℕ) (y : List ℕ). unless x (start_at s (backward (prog ws) y))) (same_refusal h g) w

    pub left_at_window : left_at ws hay s e ≡ left_at ws hay' s e
    unfolding left_at
    left_at_window = ap left_from forward_window

    pub left_window : left_says ws hay s e ≡ left_says ws hay' s e
    unfolding left_says
    left_window = ap₂ (λ (x : Option ℕ) (y : List ℕ). unless_empty x (left_or (forward (prog ws) y))) (same_refusal h g) w

  -- whatever the window's numbers: two haystacks of one length that agree from its start to its end get the same
  module _ (l : length hay ≡ length hay') (a : (i : ℕ) → s ≤ i → i < e → get_or hay i 0 ≡ get_or hay' i 0) where
    same_window : window hay s e ≡ window hay' s e
    same_window = ext_get_or 0 (window hay s e) (window hay' s e) lengths (λ i h. at i (below i h))
      where
        lengths : length (window hay s e) ≡ length (window hay' s e)
        lengths = simp (length-take, length-drop, l)

        below : (i : ℕ) → i < length (window hay s e) → i < e - s
        below i h = omega (arith, length-take (e - s) (drop s hay))

        at : (i : ℕ) → i < e - s → get_or (window hay s e) i 0 ≡ get_or (window hay' s e) i 0
        at i h =
            get_or-take (e - s) (drop s hay) i 0 h ∙ get_or-drop s hay i 0
            ∙ a (s + i) (omega arith) (omega arith)
            ∙ sym (get_or-take (e - s) (drop s hay') i 0 h ∙ get_or-drop s hay' i 0)

    pub forward_inside : forward_says ws hay s e ≡ forward_says ws hay' s e
    unfolding forward_says
    forward_inside = ap₂ (λ (n : ℕ) (y : List ℕ). unless (refusal ws n s e) (end_at e (forward (prog ws) y))) l same_window

    pub reverse_inside : reverse_says ws hay s e ≡ reverse_says ws hay' s e
    unfolding reverse_says
    reverse_inside = ap₂ (λ (n : ℕ) (y : List ℕ). unless (refusal ws n s e) (start_at s (backward (prog ws) y))) l same_window

    pub left_at_inside : left_at ws hay s e ≡ left_at ws hay' s e
    unfolding left_at
    left_at_inside = ap left_from forward_inside

    pub left_inside : left_says ws hay s e ≡ left_says ws hay' s e
    unfolding left_says
    left_inside = ap₂ (λ (n : ℕ) (y : List ℕ). unless_empty (refusal ws n s e) (left_or (forward (prog ws) y))) l same_window

-- what the check leaves, by what is said
end_some : (e n : ℕ) (x : Option (List ℕ)) → end_at e x ≡ found n → (v : List ℕ) × (x ≡ some v) × (n ≡ e - length v)
end_some e n none h = let z : ◌≡◌ {A = ℕ} 0 1 = cc in absurd (omega arith)
end_some e n (some v) h = (v, refl, cc)

end_none : (e : ℕ) (x : Option (List ℕ)) → end_at e x ≡ no_match → x ≡ none
end_none e none h = refl
end_none e (some v) h = let z : ◌≡◌ {A = ℕ} 0 1 = cc in absurd (omega arith)

start_some : (s n : ℕ) (x : Option (List ℕ)) → start_at s x ≡ found n → (v : List ℕ) × (x ≡ some v) × (n ≡ s + length v)
start_some s n none h = let z : ◌≡◌ {A = ℕ} 0 1 = cc in absurd (omega arith)
start_some s n (some v) h = (v, refl, cc)

start_none : (s : ℕ) (x : Option (List ℕ)) → start_at s x ≡ no_match → x ≡ none
start_none s none h = refl
start_none s (some v) h = let z : ◌≡◌ {A = ℕ} 0 1 = cc in absurd (omega arith)

-- a part of a part
nothing_of : (k : ℕ) → ◌≡◌ {A = List ℕ} [] (take k [])
nothing_of zero = refl
nothing_of (suc k) = refl

drop_take : (j m : ℕ) (l : List ℕ) → drop j (take m l) ≡ take (m - j) (drop j l)
drop_take zero m l = let e : m ≡ m - 0 = omega arith in ap (λ (k : ℕ). take k l) e
drop_take (suc j) zero l = let e : 0 ≡ 0 - suc j = omega arith in ap (λ (k : ℕ). take k (drop (suc j) l)) e
drop_take (suc j) (suc m) [] = nothing_of (suc m - suc j)
drop_take (suc j) (suc m) (x ∷ l) = let e : m - j ≡ suc m - suc j = omega arith in drop_take j m l ∙ ap (λ (k : ℕ). take k (drop j l)) e

-- the end of a window is a window
window_end : (hay : List ℕ) (s e k n : ℕ) → s ≤ e → k ≤ e - s → n ≡ e - k → drop (e - s - k) (window hay s e) ≡ window hay n e
window_end hay s e k n d h g =
    let a : e - s - (e - s - k) ≡ e - n = omega arith in
    let b : s + (e - s - k) ≡ n = omega arith in
    drop_take (e - s - k) (e - s) (drop s hay) ∙ ap₂ (λ (i : ℕ) (l : List ℕ). take i l) a (drop-drop (e - s - k) s hay ∙ ap (λ (i : ℕ). drop i hay) b)

-- sound words and a window inside the haystack: found exactly if some choice fits, and then by the first in 01's order
module _ (ws hay : List ℕ) (s e : ℕ) (h : sound ws ≡ true) (d : s ≤ e) (l : e ≤ length hay) where
  ok : none ≡ refusal ws (length hay) s e
  ok = passed ws (length hay) s e d l (sound_length ws h) (sym h)

  pub forward_finds : (n : ℕ) → forward_says ws hay s e ≡ found n → (v : List ℕ) × FirstForward (prog ws) (window hay s e) v × (n ≡ e - length v)
  forward_finds n g = let q = end_some e n (forward (prog ws) (window hay s e)) (forward_checked ws hay s e ok ∙ g) in (q.0, (first.forward_first (prog ws) (window hay s e) q.0).0 q.1, q.2)

  pub finds_forward : (v : List ℕ) → FirstForward (prog ws) (window hay s e) v → forward_says ws hay s e ≡ found (e - length v)
  finds_forward v g = sym (forward_checked ws hay s e ok) ∙ ap (end_at e) ((first.forward_first (prog ws) (window hay s e) v).1 g)

  pub forward_misses : (forward_says ws hay s e ≡ no_match) ↔ Nowhere (prog ws) (window hay s e)
  forward_misses = (
    λ g. (first.forward_none (prog ws) (window hay s e)).0 (end_none e (forward (prog ws) (window hay s e)) (forward_checked ws hay s e ok ∙ g)),
    λ g. sym (forward_checked ws hay s e ok) ∙ ap (end_at e) ((first.forward_none (prog ws) (window hay s e)).1 g),
  )

  -- the found end lies in the window, and the second door hands back the bytes from there to the window's end
  pub forward_within : (n : ℕ) → forward_says ws hay s e ≡ found n → (s ≤ n) × (n ≤ e)
  forward_within n g =
      let q = end_some e n (forward (prog ws) (window hay s e)) (forward_checked ws hay s e ok ∙ g) in
      let b = left_fits short (prog ws) (window hay s e) (length q.0) (sym (ap answer q.1)) in
      let w = window_length ws hay s e (fine ws (length hay) s e ok) in
      (omega (arith, q.2), omega (arith, q.2))

  pub left_tail : (n : ℕ) → forward_says ws hay s e ≡ found n → left_says ws hay s e ≡ window hay n e
  left_tail n g =
      let q = end_some e n (forward (prog ws) (window hay s e)) (forward_checked ws hay s e ok ∙ g) in
      let a = sym (ap answer q.1) in
      let b = left_fits short (prog ws) (window hay s e) (length q.0) a in
      let w = window_length ws hay s e (fine ws (length hay) s e ok) in
      let k : length q.0 ≤ e - s = omega arith in
      sym (left_checked ws hay s e ok)
      ∙ ap left_or (left_part short (prog ws) (window hay s e) (length q.0) a)
      ∙ ap (λ (m : ℕ). drop (m - length q.0) (window hay s e)) w
      ∙ window_end hay s e (length q.0) n d k q.2

  pub left_nothing : forward_says ws hay s e ≡ no_match → left_says ws hay s e ≡ []
  left_nothing g = sym (left_checked ws hay s e ok) ∙ ap left_or (end_none e (forward (prog ws) (window hay s e)) (forward_checked ws hay s e ok ∙ g))

  pub reverse_within : (n : ℕ) → reverse_says ws hay s e ≡ found n → (s ≤ n) × (n ≤ e)
  reverse_within n g =
      let q = start_some s n (backward (prog ws) (window hay s e)) (reverse_checked ws hay s e ok ∙ g) in
      let b = left_fits long (prog ws) (reverse (window hay s e)) (length q.0) (sym (ap answer q.1)) in
      let w = window_length ws hay s e (fine ws (length hay) s e ok) in
      let r = length-reverse (window hay s e) in
      (omega (arith, q.2), omega (arith, q.2))

  pub reverse_finds : (n : ℕ) → reverse_says ws hay s e ≡ found n → (u : List ℕ) × FirstReverse (prog ws) (window hay s e) u × (n ≡ s + length u)
  reverse_finds n g =
      let q = start_some s n (backward (prog ws) (window hay s e)) (reverse_checked ws hay s e ok ∙ g) in
      (reverse q.0, (first.backward_first (prog ws) (window hay s e) (reverse q.0)).0 (q.1 ∙ ap some (sym (reverse-reverse q.0))), q.2 ∙ ap (λ (k : ℕ). s + k) (sym (length-reverse q.0)))

  pub finds_reverse : (u : List ℕ) → FirstReverse (prog ws) (window hay s e) u → reverse_says ws hay s e ≡ found (s + length u)
  finds_reverse u g = sym (reverse_checked ws hay s e ok) ∙ ap (start_at s) ((first.backward_first (prog ws) (window hay s e) u).1 g) ∙ ap (λ (k : ℕ). found (s + k)) (length-reverse u)

  pub reverse_misses : (reverse_says ws hay s e ≡ no_match) ↔ Nowhere (prog ws) (reverse (window hay s e))
  reverse_misses = (
    λ g. (first.backward_none (prog ws) (window hay s e)).0 (start_none s (backward (prog ws) (window hay s e)) (reverse_checked ws hay s e ok ∙ g)),
    λ g. sym (reverse_checked ws hay s e ok) ∙ ap (start_at s) ((first.backward_none (prog ws) (window hay s e)).1 g),
  )
