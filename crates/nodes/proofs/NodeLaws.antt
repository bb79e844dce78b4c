-- A word taken apart into a node and made from it: on proper words the two are inverse. Assumes nothing.
use mathlib.Core.Path.{◌≡◌, sym}
use mathlib.Core.Bool.{true}
use Rattle.std.specs.Prelude.{Option, Some, None}
use Prim.Native.Nat.{ℕ}
use native.Mathlib.Omega.{arith}
use Rattle.def_meaning.specs.Words.{shape_by, shape, proper}
use Rattle.def_meaning.proofs.MadeLaws.{made_shape}
use Rattle.def_meaning.proofs.ProperLaws as proper-laws
use Rattle.nodes.specs.declared.ByteTest.TheVariants.{Byte, Mask, NegatedMask, Dot}
use Rattle.nodes.specs.declared.Node.{Node}
use Rattle.nodes.specs.declared.Node.TheVariants.{One, Jump, JumpRange, Alternation, AltBranch}
use Rattle.nodes.specs.Nodes.{shape_said, word_said, SaidFits}

-- the node of a proper word has that word: made from node_of w it is w
pub word_again : (w : ℕ) (n : Option Node) → proper w ≡ true → shape_said n ≡ shape w → word_said n ≡ w
word_again w n p e = proper-laws.word_again w p (sym e)

-- the word of a node says that node, and a word of no node says none
pub shape_again : (n : Option Node) → SaidFits n → shape (word_said n) ≡ shape_said n
unfolding shape_by
shape_again (Some (One (Byte v))) h = made_shape 0 v 0 (omega arith) h (omega arith)
shape_again (Some (One (Mask v m))) h = made_shape 1 v m (omega arith) h.0 h.1
shape_again (Some (One (NegatedMask v m))) h = made_shape 2 v m (omega arith) h.0 h.1
shape_again (Some (One Dot)) h = made_shape 5 0 0 (omega arith) (omega arith) (omega arith)
shape_again (Some (Jump n)) h = made_shape 3 n 0 (omega arith) h (omega arith)
shape_again (Some (JumpRange a b)) h = made_shape 4 a b (omega arith) h.0 h.1
shape_again (Some (Alternation n)) h = made_shape 6 n 0 (omega arith) h (omega arith)
shape_again (Some (AltBranch n)) h = made_shape 7 n 0 (omega arith) h (omega arith)
shape_again None h = made_shape 8 0 0 (omega arith) (omega arith) (omega arith)
