-- The program of a list's entries, token by token. Assumes nothing: these are definitions.
-- To be believed: nothing.
use Rattle.std.specs.Prelude.{◌≡◌, Bool, true, cond, List, [], ◌∷◌, ◌++◌, ℕ, zero, suc, ◌+◌, ◌*◌, ◌/◌, ◌≤◌, eqb, length, get_or, take, drop}
use Rattle.def_meaning.specs.Tokens.{Tokens, Lists, nothing, ◌then◌}
use Rattle.def_meaning.specs.Values.{Spelled}
use Rattle.def_meaning.specs.Entries.{list_count, entries_of, entries, list_entries}
use Rattle.def_meaning.specs.Programs.{Item, Prog, Branches, one, jump, range, alt, end, stop, or}
use Rattle.def_compiling.specs.ProgramWords.{words_for}
use Rattle.def_compiling.specs.Compiling.{add}
use Rattle.def_compiling.specs.Compile.{flat_branches, simple}
use Rattle.std.specs.Prelude.{Option, None}
use Rattle.emit.specs.Items.{entry_item, addend_of, place_of, put_count, put_last, put_out}

-- the items f 0, f 1, .. added one by one, k of them
unfoldable pub added_to : (ℕ → Item) → ℕ → Prog
added_to f zero = end
added_to f (suc k) = add (added_to f k) (f k)

-- the item of the entry at a place
unfoldable pub entry_at : List ℕ → ℕ → Item
entry_at ws at = entry_item (get_or ws at 0) (get_or ws (at + 1) 0) (get_or ws (at + 2) 0)

-- of a list of tokens of one entry each, the item that comes k-th, and the program
unfoldable pub list_item : Bool → List ℕ → ℕ → Item
list_item b ws k = entry_at ws (4 * place_of b (length ws / 4) k)

unfoldable pub list_program : Bool → List ℕ → Prog
list_program b ws = added_to (list_item b ws) (length ws / 4)

-- lists behind their marks, n of them: a mark's first value counts the tokens
unfoldable pub branches_at : Bool → ℕ → List ℕ → Branches
branches_at b zero ws = stop
branches_at b (suc n) ws = or (list_program b (take (4 * get_or ws 1 0) (drop 4 ws))) (branches_at b n (drop (4 + 4 * get_or ws 1 0) ws))

-- words that are the marks and entries of so many lists of flat tokens
pub record FlatLists (n : ℕ) (ws : List ℕ) : Type 0 where
  pub lists : Lists
  pub entered : ws ≡ list_entries lists
  pub flatly : flat_branches lists ≡ true
  pub many : list_count lists ≡ n

-- the branches of the alternatives at a place, and the item of the token there
unfoldable pub alt_at : Bool → List ℕ → ℕ → Branches
alt_at b ws at = branches_at b (get_or ws (at + 1) 0) (take (4 * get_or ws (at + 2) 0) (drop (at + 4) ws))

unfoldable pub token_at : Bool → List ℕ → ℕ → Item
token_at b ws at = cond (eqb (get_or ws at 0) 5) (alt (alt_at b ws at)) (entry_at ws at)

-- of the outer list, whose tokens start at the places st: the item that comes k-th, and the program
unfoldable pub token_item : Bool → List ℕ → List ℕ → ℕ → Item
token_item b ws st k = token_at b ws (get_or st (place_of b (length st) k) 0)

unfoldable pub tokens_program : Bool → List ℕ → List ℕ → Prog
tokens_program b ws st = added_to (token_item b ws st) (length st)

-- an item more after n words: the words then, the last node, and the buffer
unfoldable pub item_count : ℕ → Option ℕ → Item → ℕ
item_count n last (one t) = put_count n last (addend_of (one t))
item_count n last (jump m) = put_count n last (addend_of (jump m))
item_count n last (range a b) = put_count n last (addend_of (range a b))
item_count n last (alt bs) = n + length (words_for (alt bs))

unfoldable pub item_last : Option ℕ → Item → Option ℕ
item_last last (one t) = put_last last (addend_of (one t))
item_last last (jump m) = put_last last (addend_of (jump m))
item_last last (range a b) = put_last last (addend_of (range a b))
item_last last (alt bs) = None

unfoldable pub item_out : List ℕ → ℕ → Option ℕ → Item → List ℕ
item_out out n last (one t) = put_out out n last (addend_of (one t))
item_out out n last (jump m) = put_out out n last (addend_of (jump m))
item_out out n last (range a b) = put_out out n last (addend_of (range a b))
item_out out n last (alt bs) = take n out ++ (words_for (alt bs) ++ drop (n + length (words_for (alt bs))) out)

-- the words of the token at a place
unfoldable pub size_at : List ℕ → ℕ → ℕ
size_at ws at = cond (eqb (get_or ws at 0) 5) (4 + 4 * get_or ws (at + 2) 0) 4

-- a whole token stands at a place, and alternatives there hold flat tokens
pub record Stands (ws : List ℕ) (at : ℕ) : Type 0 where
  pub fits : at + size_at ws at ≤ length ws
  pub opened : get_or ws at 0 ≡ 5 → FlatLists (get_or ws (at + 1) 0) (take (4 * get_or ws (at + 2) 0) (drop (at + 4) ws))

-- where the tokens of a list start, which itself starts at `at`
unfoldable pub offsets : ℕ → Tokens → List ℕ
offsets at nothing = []
offsets at (t then ts) = at ∷ offsets (at + length (entries_of t)) ts

-- words that are a list's entries, and the places where its tokens start
pub record Outlined (ws st : List ℕ) : Type 0 where
  pub tokens : Tokens
  pub entered : ws ≡ entries tokens
  pub started : st ≡ offsets 0 tokens
  pub spelled : Spelled tokens
  pub simply : simple tokens ≡ true
