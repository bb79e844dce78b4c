-- What a call leaves in a lent pool of words. A pool that is shorter than `size` is refused by 18 and stays as it is, so these are used
-- of pools of at least `size` words alone. Assumes nothing: these are definitions.
-- To be believed: `filled` `cleared`.
use Rattle.std.specs.Prelude.{List, ◌++◌, ℕ, ◌-◌, length, take, drop, replicate}

-- the words from `from` up to `to` are 0, and the others stay
unfoldable pub zeroed : ℕ → ℕ → List ℕ → List ℕ
zeroed from to p = take from p ++ (replicate (to - from) 0 ++ drop to p)

-- success, with at most `size` words used: the used words, 0 in the rest of the first `size`, and what lies beyond as it was
unfoldable pub filled : ℕ → List ℕ → List ℕ → List ℕ
filled size ws p = ws ++ (replicate (size - length ws) 0 ++ drop size p)

-- a refusal that zeroes: 0 in the first `size` words, and what lies beyond as it was
unfoldable pub cleared : ℕ → List ℕ → List ℕ
cleared size p = replicate size 0 ++ drop size p
