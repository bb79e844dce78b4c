-- Words written into a pool. Assumes nothing: this is a definition.
-- To be believed: nothing.
use Rattle.std.specs.Prelude.{List, ◌++◌, ℕ, ◌+◌, length, take, drop}

-- the pool p with the words ws from n on
unfoldable pub written : List ℕ → ℕ → List ℕ → List ℕ
written p n ws = take n p ++ (ws ++ drop (n + length ws) p)
