-- How long literals are. Assumes nothing.
use mathlib.Core.Path.{◌≡◌, sym, ap, ◌∙◌, subst}
use mathlib.Core.Logic.{⊎_elim}
use mathlib.Core.List.Memᴰ
use mathlib.Core.List.{List, [], ◌∷◌, ◌++◌, append-nil, append_assoc, Memᴰ}
use Prim.Native.Nat.{ℕ, ◌≤◌, min}
use native.Mathlib.Omega.{arith}
use lib.ListN.{length, length-append}
use Rattle.def_meaning.specs.Tokens.{Token, Tokens, Lists, Byte, NotByte, MaskedByte, NotMaskedByte, Jump, Alternatives, nothing, ◌then◌, neither, ◌or◌, total_in, total, totals}
use Rattle.def_picking.specs.Literals.{taken, ◌⊗◌, singles, followed, spelt, branched, literals, length_of, length_in, shortest, shorter}
use Rattle.def_picking.proofs.MatchLaws.{Split, in_joined, in_singles}

-- between two lengths
abbrev Between : ℕ → ℕ → List ℕ → Type 0
Between a b l = (a ≤ length l) × (length l ≤ b)

-- the least of some lengths is at most each
shorter_le : (ls : Lists) (n : ℕ) → shorter ls n ≤ n
unfolding shorter
shorter_le neither n = omega arith
shorter_le (ts or ls) n = let h = shorter_le ls (min n (length_in ts)) in omega arith

one_long : (t : Token) (ps : List (List ℕ)) (s : List ℕ) → Memᴰ s (ps ⊗ singles (taken t)) → Split ps (Between 1 1) s
one_long t ps s h =
    let r = in_joined ps (singles (taken t)) s h in
    let u = in_singles (taken t) r.1 r.4 in
    let e : length r.1 ≡ 1 = ap length u.1 in
    (r.0, r.1, r.2, r.3, (omega arith, omega arith))

-- at least the shortest of some lists and at most their tokens; here n is a length that is at least the shortest's bound
whole : (a b : ℕ) (s : List ℕ) → Split ([] ∷ []) (Between a b) s → Between a b s
whole a b s (p, q, e, m, h) = subst (Between a b) (sym (e ∙ ap (λ (x : List ℕ). x ++ q) (Memᴰ.eq_of_singleton m))) h

mutual
  unfolding followed length_of total_in

  followed_long : (t : Token) (ps : List (List ℕ)) (s : List ℕ) → Memᴰ s (followed t ps) → Split ps (Between (length_of t) (total_in t)) s
  followed_long (Byte v) ps s h = one_long (Byte v) ps s h
  followed_long (NotByte v) ps s h = one_long (NotByte v) ps s h
  followed_long (MaskedByte v m) ps s h = one_long (MaskedByte v m) ps s h
  followed_long (NotMaskedByte v m) ps s h = one_long (NotMaskedByte v m) ps s h
  followed_long (Jump from to) ps s h = one_long (Jump from to) ps s h
  followed_long (Alternatives ls) ps s h = let r = some_long ls ps s h in (r.0, r.1, r.2, r.3, (r.4.0, let k = r.4.1 in omega arith))

  spelt_long : (ts : Tokens) (ps : List (List ℕ)) (s : List ℕ) → Memᴰ s (spelt ts ps) → Split ps (Between (length_in ts) (total ts)) s
  spelt_long nothing ps s h = (s, [], sym (append-nil s), h, (omega arith, omega arith))
  spelt_long (t then ts) ps s h =
      let r = spelt_long ts (followed t ps) s h in
      let u = followed_long t ps r.0 r.3 in
      let e = length-append u.1 r.1 in
      let a = u.4.0 in
      let b = u.4.1 in
      let c = r.4.0 in
      let d = r.4.1 in
      (u.0, u.1 ++ r.1, r.2 ∙ ap (λ (x : List ℕ). x ++ r.1) u.2 ∙ append_assoc u.0 u.1 r.1, u.3, (omega arith, omega arith))

  some_long : (ls : Lists) (ps : List (List ℕ)) (s : List ℕ) → Memᴰ s (branched ls ps) → Split ps (Between (shortest ls) (totals ls)) s
  some_long neither ps s h = absurd (Memᴰ.not-nil h)
  some_long (ts or ls) ps s h =
      ⊎_elim
      (λ (m : Memᴰ s (ps ⊗ spelt ts ([] ∷ []))).
      let r = in_joined ps (spelt ts ([] ∷ [])) s m in
      let w = whole (length_in ts) (total ts) r.1 (spelt_long ts ([] ∷ []) r.1 r.4) in
      let a = w.0 in
      let b = w.1 in
      let c = shorter_le ls (length_in ts) in
      (r.0, r.1, r.2, r.3, (omega arith, omega arith)))
      (λ (m : Memᴰ s (branched ls ps)).
      let r = any_long ls ps s (length_in ts) m in
      let a = r.4.0 in
      let b = r.4.1 in
      (r.0, r.1, r.2, r.3, (omega arith, omega arith)))
      (Memᴰ.append_cases (ps ⊗ spelt ts ([] ∷ [])) h)

  any_long : (ls : Lists) (ps : List (List ℕ)) (s : List ℕ) (n : ℕ) → Memᴰ s (branched ls ps) → Split ps (Between (shorter ls n) (totals ls)) s
  any_long neither ps s n h = absurd (Memᴰ.not-nil h)
  any_long (ts or ls) ps s n h =
      ⊎_elim
      (λ (m : Memᴰ s (ps ⊗ spelt ts ([] ∷ []))).
      let r = in_joined ps (spelt ts ([] ∷ [])) s m in
      let w = whole (length_in ts) (total ts) r.1 (spelt_long ts ([] ∷ []) r.1 r.4) in
      let a = w.0 in
      let b = w.1 in
      let c = shorter_le ls (min n (length_in ts)) in
      (r.0, r.1, r.2, r.3, (omega arith, omega arith)))
      (λ (m : Memᴰ s (branched ls ps)).
      let r = any_long ls ps s (min n (length_in ts)) m in
      let a = r.4.0 in
      let b = r.4.1 in
      (r.0, r.1, r.2, r.3, (omega arith, omega arith)))
      (Memᴰ.append_cases (ps ⊗ spelt ts ([] ∷ [])) h)

-- a literal is at least as long as the shortest branches tell, and no longer than there are tokens
pub literal_lengths : (ts : Tokens) (s : List ℕ) → Memᴰ s (literals ts) → (length_in ts ≤ length s) × (length s ≤ total ts)
literal_lengths ts s h = whole (length_in ts) (total ts) s (spelt_long ts ([] ∷ []) s h)
