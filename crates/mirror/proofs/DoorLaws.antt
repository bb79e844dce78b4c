-- The cases of the mirror's door, over plain lists. Assumes nothing.
use Rattle.std.proofs.Common.{◌≡◌, sym, ap, ap₂, ◌∙◌, true, false, List, ◌++◌, ℕ, ◌+◌, ◌-◌, ◌≤◌, ◌<◌, arith, length, drop, drop-drop, lt-ltb, le-ltb}
use Rattle.def_meaning.specs.Words.{sound, mirror_words}
use Rattle.def_meaning.proofs.WordSpans.{mirrored_length}
use Rattle.base.specs.Pools.{zeroed}
use Rattle.base.proofs.PoolLaws.{zeroed_cleared, zeroed_filled}
use Rattle.mirror.specs.MirrorDoor.{MirrorSaid, mirrored, refuses, mirror_says, mirror_leaves}

module _ (words pool : List ℕ) where
  abbrev pub Right : MirrorSaid → List ℕ → Type 0
  Right s p = (s ≡ mirror_says words pool) × (p ≡ mirror_leaves words pool)

  pub no_room : length pool < 512 → Right (refuses 18 0) pool
  unfolding mirror_says mirror_leaves
  no_room h = let a = lt-ltb (length pool) 512 h in (rw a, rw a)

  module _ (room : 512 ≤ length pool) where
    pub too_many : 512 < length words → Right (refuses 13 0) (zeroed 0 512 pool)
    unfolding mirror_says mirror_leaves
    too_many h =
        let a = le-ltb (length pool) 512 room in
        let b = lt-ltb 512 (length words) h in
        (rw (a, b), rw (a, b) (zeroed_cleared 512 pool))

    module _ (few : length words ≤ 512) where
      pub not_sound : sound words ≡ false → Right (refuses 15 0) (zeroed 0 512 pool)
      unfolding mirror_says mirror_leaves
      not_sound h =
          let a = le-ltb (length pool) 512 room in
          let b = le-ltb 512 (length words) few in
          (rw (a, b, h), rw (a, b, h) (zeroed_cleared 512 pool))

      pub success : sound words ≡ true → (ys : List ℕ) → ys ≡ mirror_words words → Right (mirrored (length words)) (zeroed (length words) 512 (ys ++ drop (length words) pool))
      unfolding mirror_says mirror_leaves
      success h ys y =
          let a = le-ltb (length pool) 512 room in
          let b = le-ltb 512 (length words) few in
          let n : length (mirror_words words) ≡ length words = mirrored_length words h in (
            rw (a, b, h) (ap mirrored (sym n)),
            rw (a, b, h) (
                ap₂ (λ (k : ℕ) (x : List ℕ). zeroed k 512 (x ++ drop k pool)) (sym n) y
                ∙ zeroed_filled 512 (mirror_words words) (drop (length (mirror_words words)) pool) pool (omega arith) (drop-drop (512 - length (mirror_words words)) (length (mirror_words words)) pool ∙ (let e : length (mirror_words words) + (512 - length (mirror_words words)) ≡ 512 = omega arith in ap (λ (k : ℕ). drop k pool) e))
                ),
          )
