-- What compiling leaves in the pools. Assumes nothing.
use Rattle.std.proofs.Common.{◌≡◌, refl, sym, ap, ◌∙◌, true, false, true≢false, Result, Ok, Err, IsErrAnd, is_err, List, ◌++◌, ℕ, ◌+◌, ◌-◌, ◌≤◌, arith, length, take, drop, replicate, length-drop, length-append}
use Rattle.std.proofs.Math.Seq.{drop-drop}
use borrow.Rule.Slice.PartMut.{put_mid}
use Rattle.def_meaning.specs.Limits.{node_pool}
use Rattle.base.specs.declared.Refusal.{Refusal}
use Rattle.base.specs.Pools.{zeroed, filled, cleared}
use Rattle.base.proofs.PoolLaws.{zeroed_fill, zeroed_filled}
use Rattle.def_compiling.specs.Compile.{Compiled, compiled, refused}
use Rattle.compiler.specs.declared.Sizes.{Sizes}
use Rattle.compiler.specs.Made.{Fills, Makes, Puts}

-- the words in front, and zeros behind them; `f` is what a slice's `fill` ensures where a copy is the value itself
pub filled_by : (w p y q : List ℕ) → length w ≤ node_pool → node_pool ≤ length p → y ≡ w → (((v : ℕ) → v ≡ 0 → v ≡ 0) → q ≡ replicate (length (take (node_pool - length w) (drop (length w) (y ++ drop (length w) p)))) 0)
    → put_mid (length w) (node_pool - length w) (y ++ drop (length w) p) q ≡ filled node_pool w p
filled_by w p y q h l e f =
    let s : length w + (node_pool - length w) ≡ node_pool = omega arith in
    let n : length (y ++ drop (length w) p) ≡ length y + length (drop (length w) p) = length-append y (drop (length w) p) in
    let m : length (drop (length w) p) ≡ length p - length w = length-drop (length w) p in
    zeroed_fill (length w) node_pool (y ++ drop (length w) p) q h (omega (arith, n, m, ap length e)) f
    ∙ ap (λ (x : List ℕ). zeroed (length w) node_pool (x ++ drop (length w) p)) e
    ∙ zeroed_filled node_pool w (drop (length w) p) p h (drop-drop (node_pool - length w) (length w) p ∙ ap (λ (k : ℕ). drop k p) s)

-- what `?` hands on
pub passed_puts : (c : Compiled) (made result : Result Sizes Refusal) (x : Refusal) (a b p q : List ℕ) → Makes c made a b → made ≡ Err x → IsErrAnd result (λ y. y ≡ x) → Puts c result p p q q
passed_puts (compiled f r) made result x a b p q m e g = let z : ◌≡◌ {A = ℕ} 0 1 = cc in absurd (omega arith)
passed_puts (refused z) made (Ok s) x a b p q m e g = absurd g
passed_puts (refused z) made (Err y) x a b p q m e g = (ap Err g ∙ sym e ∙ m, refl, refl)

-- both programs, which stand at the front of their buffers
pub made_puts : (c : Compiled) (s : Sizes) (a b p q p' q' : List ℕ) → Makes c (Ok s) a b → p' ≡ filled node_pool (take s.forward a) p → q' ≡ filled node_pool (take s.reverse b) q → Puts c (Ok s) p p' q q'
made_puts (compiled f r) s a b p q p' q' (h, x, y) e g =
    let ef : s.forward ≡ length f = cc in
    let er : s.reverse ≡ length r = cc in (
      h,
      e ∙ ap (λ (i : ℕ). filled node_pool (take i a) p) ef ∙ ap (λ (z : List ℕ). filled node_pool z p) x,
      g ∙ ap (λ (i : ℕ). filled node_pool (take i b) q) er ∙ ap (λ (z : List ℕ). filled node_pool z q) y,
    )
made_puts (refused z) s a b p q p' q' h e g = let z : ◌≡◌ {A = ℕ} 0 1 = cc in absurd (omega arith)

-- the pools of a refusal are zeroed, and no others
module _ (made : Result Sizes Refusal) (p p₁ q q₁ : List ℕ) where
  pub refused_fills : (c : Compiled) (p' q' : List ℕ) → Puts c made p p₁ q q₁ → is_err made ≡ true → p' ≡ cleared node_pool p₁ → q' ≡ cleared node_pool q₁ → Fills c made p p' q q'
  refused_fills (compiled f r) p' q' (h, x, y) e k l = absurd (true≢false (sym e ∙ ap is_err h))
  refused_fills (refused z) p' q' (h, x, y) e k l = (h, k ∙ ap (cleared node_pool) x, l ∙ ap (cleared node_pool) y)

  pub made_fills : (c : Compiled) → Puts c made p p₁ q q₁ → is_err made ≡ false → Fills c made p p₁ q q₁
  made_fills (compiled f r) h e = h
  made_fills (refused z) (h, x, y) e = absurd (true≢false (sym (ap is_err h) ∙ e))
