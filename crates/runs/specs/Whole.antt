-- Words that are whole entries of tokens, and the parts of a run. Assumes nothing: these are definitions.
-- To be believed: nothing.
use Rattle.std.specs.Prelude.{◌≡◌, cond, List, [], ℕ, ◌+◌, ◌-◌, ◌*◌, ◌≤◌, eqb, length, get_or, take, drop}
use Rattle.def_meaning.specs.Limits.{token_pool}
use Rattle.def_meaning.specs.Tokens.{Tokens, nothing, ◌then◌}
use Rattle.def_picking.specs.Runs.{closes, segments}
use Rattle.entries.specs.Words.{walk, width, token_in}

-- the token at the front has all its words
pub record Entire (ws : List ℕ) : Type 0 where
  pub entry : 4 ≤ length ws
  pub within : get_or ws 0 0 ≡ 5 → 4 + 4 * get_or ws 2 0 ≤ length ws

-- and so has every token
pub data Whole : List ℕ → Type 0 where
  none : Whole []
  more : (ws : List ℕ) → Entire ws → Whole (drop (width ws) ws) → Whole ws

-- the words of the bytes at the front
unfoldable pub byte_end : List ℕ → ℕ
byte_end ws = walk 0 (λ w n. cond (eqb (get_or w 0 0) 0) (4 + n) 0) (λ w. 4) (length ws) ws

-- the words of the part at the front
unfoldable pub part_end : List ℕ → ℕ
part_end ws = cond (eqb (get_or ws 0 0) 0) (byte_end ws) (width ws)

-- a part of a run begins at `at`, and from `prior` to `at` stands the literal part before it, or nothing
pub record Placed (run : List ℕ) (prior at : ℕ) : Type 0 where
  pub few : length run ≤ token_pool
  pub behind : prior ≤ at
  pub here : at + 4 ≤ length run
  pub before_whole : Whole (take (at - prior) (drop prior run))
  pub rest_whole : Whole (drop at run)

-- the words before the first token that closes a run
unfoldable pub run_end : List ℕ → ℕ
run_end ws = walk 0 (λ w n. cond (closes (token_in w)) 0 (width w + n)) width (length ws) ws

-- the segments after the token that closed a run
unfoldable pub afterward : Tokens → List Tokens
afterward nothing = []
afterward (t then ts) = segments ts
