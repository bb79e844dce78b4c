-- The item of a token entry, and one item more at the end of words. Assumes nothing: these are definitions.
-- To be believed: nothing.
use Rattle.std.specs.Prelude.{Bool, true, false, cond, List, ℕ, ◌+◌, ◌*◌, ◌-◌, ◌%◌, ◌≤◌, eqb, leb, ltb, set}
use Rattle.std.proofs.Math.Option.{Option as Maybe, none, some}
use Rattle.def_meaning.specs.Limits.{jump_limit}
use Rattle.def_meaning.specs.Programs.{byte, mask, negated_mask, Item, Prog, one, jump, range, alt, end, ◌▹◌}
use Rattle.def_meaning.specs.NodeWords.{word}
use Rattle.def_meaning.specs.Words.{field_size, word_for}
use Rattle.def_compiling.specs.Compiling.{jump_of}
use Rattle.emit.specs.declared.Addend.{Addend}
use Rattle.emit.specs.declared.Addend.TheVariants.{Word, Gap}
use Rattle.std.specs.Prelude.{Option, Some, None, IfSome}

-- the item of an entry, by its kind and its first two values; values that a text can spell are their own remainders
unfoldable pub mask_item : ℕ → ℕ → Item
mask_item a b = cond (eqb b 0) (one (mask (a % 16) 0x0F)) (cond (eqb b 1) (one (mask (16 * (a % 16)) 0xF0)) (jump 1))

unfoldable pub not_mask_item : ℕ → ℕ → Item
not_mask_item a b = cond (eqb b 0) (one (negated_mask (a % 16) 0x0F)) (cond (eqb b 1) (one (negated_mask (16 * (a % 16)) 0xF0)) (one (negated_mask 0 0)))

-- the value and the mask of an entry that asks half a byte
unfoldable pub half_of : ℕ → ℕ → Option (ℕ × ℕ)
half_of a b = cond (eqb b 0) (Some (a % 16, 0x0F)) (cond (eqb b 1) (Some (16 * (a % 16), 0xF0)) None)

unfoldable pub jump_item : ℕ → ℕ → Item
jump_item a b = cond (ltb a b) (range a b) (jump a)

abbrev pub byte_in : ℕ → ℕ
byte_in v = v % 256

unfoldable pub entry_item : ℕ → ℕ → ℕ → Item
entry_item k a b =
    cond (eqb k 0) (one (byte (byte_in a)))
    (cond (eqb k 1) (one (negated_mask (byte_in a) 0xFF))
    (cond (eqb k 2) (mask_item a b)
    (cond (eqb k 3) (not_mask_item a b) (jump_item (a % field_size) (b % field_size)))))

-- what an item of one word adds; an alternation is none
unfoldable pub addend_of : Item → Addend
addend_of (one t) = Word (word_for t)
addend_of (jump n) = Gap n
addend_of (range a b) = Word (word 4 a b)
addend_of (alt bs) = Gap 0

-- the last node of a program
unfoldable pub growing : Maybe ℕ → Option ℕ
growing none = None
growing (some n) = Some n

unfoldable pub last_of : Prog → Option ℕ
last_of end = None
last_of (i ▹ end) = growing (jump_of i)
last_of (i ▹ (k ▹ p)) = last_of (k ▹ p)

-- a jump that may grow stands before the next word
abbrev pub Behind : ℕ → Option ℕ → Type 0
Behind n last = IfSome last (λ _. 1 ≤ n)

-- the length of the last node, where a jump so long enlarges it
unfoldable pub grown_of : Option ℕ → ℕ → Option ℕ
grown_of None m = None
grown_of (Some l) m = cond (leb (l + m) jump_limit) (Some (l + m)) None

-- an addend more after n words, the last of which is as told: the words then, the last node, and the buffer
unfoldable pub put_count : ℕ → Option ℕ → Addend → ℕ
put_count n last (Word w) = n + 1
put_count n None (Gap m) = n + 1
put_count n (Some l) (Gap m) = cond (leb (l + m) jump_limit) n (n + 1)

unfoldable pub put_last : Option ℕ → Addend → Option ℕ
put_last last (Word w) = None
put_last None (Gap m) = Some m
put_last (Some l) (Gap m) = cond (leb (l + m) jump_limit) (Some (l + m)) (Some m)

unfoldable pub put_out : List ℕ → ℕ → Option ℕ → Addend → List ℕ
put_out out n last (Word w) = set out n w
put_out out n None (Gap m) = set out n (word 3 m 0)
put_out out n (Some l) (Gap m) = cond (leb (l + m) jump_limit) (set out (n - 1) (word 3 (l + m) 0)) (set out n (word 3 m 0))

-- which of n tokens comes k-th: forwards, or backwards
unfoldable pub place_of : Bool → ℕ → ℕ → ℕ
place_of true n k = n - 1 - k
place_of false n k = k
