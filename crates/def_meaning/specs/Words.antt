-- Node words: the fields of a word, the node that it says, sound lists of words, and the program that they say.
-- Assumes nothing: these are definitions.
-- To be believed: nothing.
use Rattle.std.specs.Prelude.{◌≡◌, Bool, true, false, cond, ◌&&◌, List, [], ◌∷◌, ◌++◌, ℕ, zero, suc, ◌+◌, ◌*◌, ◌/◌, ◌%◌, eqb, leb, ltb, length, take, drop}
use Rattle.std.specs.Int.Bits.{bit_and}
use Rattle.def_meaning.specs.Limits.{branch_limit, node_limit}
use Rattle.def_meaning.specs.NodeWords.{word}
use Rattle.def_meaning.specs.Programs.{Test, byte, mask, negated_mask, any, dot, Item, Prog, Branches, one, jump, range, alt, end, ◌▹◌, stop, or}

-- how many values a byte has, and a field
abbrev pub byte_size : ℕ
byte_size = 256

abbrev pub field_size : ℕ
field_size = 65536

-- A word by its kind and its two fields, and each of them out of a word. The size F of a field is a parameter, so that the facts about
-- fields (proofs/FieldLaws.antt) are proved once for every size: the kind always has 256 values.
abbrev pub word_by : ℕ → ℕ → ℕ → ℕ → ℕ
word_by F k a b = k + 256 * a + 256 * F * b

abbrev pub kind_of : ℕ → ℕ
kind_of w = w % 256

abbrev pub first_by : ℕ → ℕ → ℕ
first_by F w = w / 256 % F

abbrev pub second_by : ℕ → ℕ → ℕ
second_by F w = w / (256 * F) % F

-- those of 02's word (specs/NodeWords.antt)
abbrev pub first_of : ℕ → ℕ
first_of w = first_by field_size w

abbrev pub second_of : ℕ → ℕ
second_of w = second_by field_size w

-- what an Alternation counts
abbrev pub count_of : ℕ → ℕ
count_of w = first_of w

-- how many words there are of a kind and two fields
abbrev pub word_size : ℕ
word_size = 256 * field_size * field_size

-- what one word says by its kind and fields, read without judging (`proper` judges): an item that is one word; alternatives, whose branches
-- are the next so many words; a branch, whose nodes are the next so many words; or a kind that 01 does not have
pub data Shape : Type 0 where
  item : Item → Shape
  opens : ℕ → Shape
  mark : ℕ → Shape
  wrong : Shape

-- by the kind k and the fields a and b
unfoldable pub shape_by : ℕ → ℕ → ℕ → Shape
shape_by k a b =
    cond (eqb k 0) (item (one (byte a)))
    (cond (eqb k 1) (item (one (mask a b)))
    (cond (eqb k 2) (item (one (negated_mask a b)))
    (cond (eqb k 3) (item (jump a))
    (cond (eqb k 4) (item (range a b))
    (cond (eqb k 5) (item (one dot))
    (cond (eqb k 6) (opens a)
    (cond (eqb k 7) (mark a) wrong)))))))

unfoldable pub shape : ℕ → Shape
shape w = shape_by (kind_of w) (first_of w) (second_of w)

-- the word that says a test, and a shape; no word says `any` (Jump 1 would do) or whole alternatives, and what stands for a wrong shape has
-- a kind that is none
abbrev pub word_for : Test → ℕ
word_for (byte v) = word 0 v 0
word_for (mask v m) = word 1 v m
word_for (negated_mask v m) = word 2 v m
word_for any = word 3 1 0
word_for dot = word 5 0 0

abbrev pub word_of_shape : Shape → ℕ
word_of_shape (item (one t)) = word_for t
word_of_shape (item (jump n)) = word 3 n 0
word_of_shape (item (range a b)) = word 4 a b
word_of_shape (item (alt bs)) = word 8 0 0
word_of_shape (opens n) = word 6 n 0
word_of_shape (mark n) = word 7 n 0
word_of_shape wrong = word 8 0 0

-- the mask m is a byte, and every bit of the value v lies under it
abbrev pub under_mask : ℕ → ℕ → Bool
under_mask v m = ltb m byte_size && eqb (bit_and v m) v

-- the first field counts something, and the second, which has no name, is 0
abbrev pub counts : ℕ → ℕ → Bool
counts a b = leb 1 a && eqb b 0

-- one of the kinds, its unnamed fields 0, values and masks bytes, values under their masks, min at most max; jumps, alternations and branches
-- count something, a branch no more than its limit
unfoldable pub proper_by : ℕ → ℕ → ℕ → Bool
proper_by k a b =
    cond (eqb k 0) (ltb a byte_size && eqb b 0)
    (cond (eqb k 1) (under_mask a b)
    (cond (eqb k 2) (under_mask a b)
    (cond (eqb k 3) (counts a b)
    (cond (eqb k 4) (leb a b)
    (cond (eqb k 5) (eqb a 0 && eqb b 0)
    (cond (eqb k 6) (counts a b)
    (cond (eqb k 7) (leb a branch_limit && counts a b) false)))))))

-- a word that may stand in a sound program, as far as it tells by itself
unfoldable pub proper : ℕ → Bool
proper w = ltb w word_size && proper_by (kind_of w) (first_of w) (second_of w)

-- what may stand in a branch: kinds 0, 1, 2, 3 and 5
unfoldable pub is_flat : Item → Bool
is_flat (one t) = true
is_flat (jump n) = true
is_flat (range a b) = false
is_flat (alt bs) = false

unfoldable pub flat_prog : Prog → Bool
flat_prog end = true
flat_prog (i ▹ p) = is_flat i && flat_prog p

-- Sound words and what they say, by computing: specs/NodeWords.antt lists them, and proofs/NodeWords.antt shows that these are the same.

-- the program that words say; n bounds the depth of calls, and the number of words is enough
unfoldable mutual
  pub items : ℕ → List ℕ → Prog
  items zero ws = end
  items (suc n) [] = end
  items (suc n) (w ∷ ws) = elim (shape w) [
    | item i ↦ i ▹ items n ws
    | opens k ↦ alt (branches n (take k ws)) ▹ items n (drop k ws)
    -- no sound program has a mark here; the words from inside a branch on meet the marks of the later branches, and skip each
    | mark k ↦ items n (drop k ws)
    | wrong ↦ end
  ]

  pub branches : ℕ → List ℕ → Branches
  branches zero ws = stop
  branches (suc n) [] = stop
  branches (suc n) (w ∷ ws) = elim (shape w) [
    | item i ↦ stop
    | opens k ↦ stop
    | mark k ↦ or (items n (take k ws)) (branches n (drop k ws))
    | wrong ↦ stop
  ]

-- sound words: an alternation is filled by one or more branches, a branch by flat items
unfoldable pub flat_words : List ℕ → Bool
flat_words [] = true
flat_words (w ∷ ws) = proper w && elim (shape w) [ item i ↦ is_flat i && flat_words ws | opens k ↦ false | mark k ↦ false | wrong ↦ false ]

unfoldable pub sound_branches : ℕ → List ℕ → Bool
sound_branches zero ws = eqb (length ws) 0
sound_branches (suc n) [] = true
sound_branches (suc n) (w ∷ ws) = proper w && elim (shape w) [
  | item i ↦ false
  | opens k ↦ false
  | mark k ↦ leb k (length ws) && (flat_words (take k ws) && sound_branches n (drop k ws))
  | wrong ↦ false
]

unfoldable pub sound_words : ℕ → List ℕ → Bool
sound_words zero ws = eqb (length ws) 0
sound_words (suc n) [] = true
sound_words (suc n) (w ∷ ws) = proper w && elim (shape w) [
  | item i ↦ sound_words n ws
  | opens k ↦ leb k (length ws) && (sound_branches n (take k ws) && sound_words n (drop k ws))
  | mark k ↦ false
  | wrong ↦ false
]

-- the words of the mirror
unfoldable mutual
  pub mirror_items : ℕ → List ℕ → List ℕ
  mirror_items zero ws = []
  mirror_items (suc n) [] = []
  mirror_items (suc n) (w ∷ ws) = elim (shape w) [
    | item i ↦ mirror_items n ws ++ (w ∷ [])
    | opens k ↦ mirror_items n (drop k ws) ++ (w ∷ mirror_branches n (take k ws))
    | mark k ↦ []
    | wrong ↦ []
  ]

  pub mirror_branches : ℕ → List ℕ → List ℕ
  mirror_branches zero ws = []
  mirror_branches (suc n) [] = []
  mirror_branches (suc n) (w ∷ ws) = elim (shape w) [
    | item i ↦ []
    | opens k ↦ []
    | mark k ↦ w ∷ (mirror_items n (take k ws) ++ mirror_branches n (drop k ws))
    | wrong ↦ []
  ]

unfoldable pub mirror_words : List ℕ → List ℕ
mirror_words ws = mirror_items (length ws) ws

unfoldable pub prog : List ℕ → Prog
prog ws = items (length ws) ws

unfoldable pub branches_of : List ℕ → Branches
branches_of ws = branches (length ws) ws

unfoldable pub sound : List ℕ → Bool
sound ws = leb (length ws) node_limit && sound_words (length ws) ws

-- what the parts that are handed down keep
abbrev pub Sound : List ℕ → Type 0
Sound ws = sound_words (length ws) ws ≡ true

abbrev pub SoundBranches : List ℕ → Type 0
SoundBranches ws = sound_branches (length ws) ws ≡ true
