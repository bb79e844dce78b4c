-- The lengths of a range, one by one. Assumes nothing.
-- N is what the code hands on of the window M: the bytes after the length that is tried.
use Rattle.std.proofs.Common.{◌≡◌, refl, sym, ap, ◌∙◌, Bool, true, false, List, ℕ, zero, suc, ◌+◌, ◌-◌, ◌≤◌, ◌<◌, min, arith, leb, leb-true, leb-false, length, drop, reverse, Some, None}
use Rattle.std.proofs.Math.Option.{Option, none}
use Rattle.std.proofs.Math.ListN.{length-reverse}
use Rattle.def_meaning.specs.Programs.{Prog, Branches, range, alt, ◌▹◌}
use Rattle.def_meaning.specs.Choices.{Order, short, long}
use Rattle.def_meaning.specs.Rows.{Row, or_else, found, ◌⊗◌, rising, lengths, rows, rows_in, run}
use Rattle.def_meaning.proofs.RowLaws.{one_times}
use Rattle.def_meaning.proofs.RunLaws.{run_jump, run_jump_none, run_range, run_range_empty, below, range_below, below_none, below_step}
use Rattle.steps.specs.Steps.{answer, length_at}
use Rattle.steps.proofs.Answers.{answer_none, answer_some}

-- forward: the length n did, or did not; or no longer one can
module _ (p : Prog) (M N : List ℕ) (n b : ℕ) (d : N ≡ drop n M) (h : n ≤ b) (l : n ≤ length M) where
  shortest : run short (range n b ▹ p) M ≡ or_else (run short p N) (run short (range (n + 1) b ▹ p) M)
  shortest = run_range p M n b h ∙ ap (λ (x : Option (List ℕ)). or_else x (run short (range (n + 1) b ▹ p) M)) (run_jump short p M n l ∙ ap (run short p) (sym d))

  range_next : None ≡ answer (run short p N) → run short (range n b ▹ p) M ≡ run short (range (n + 1) b ▹ p) M
  range_next e = shortest ∙ ap (λ (x : Option (List ℕ)). or_else x (run short (range (n + 1) b ▹ p) M)) (answer_none (run short p N) e)

  range_take : (k : ℕ) → Some k ≡ answer (run short p N) → Some k ≡ answer (run short (range n b ▹ p) M)
  range_take k e =
      let q = answer_some (run short p N) k e in
      e ∙ ap answer (q.1 ∙ sym (shortest ∙ ap (λ (x : Option (List ℕ)). or_else x (run short (range (n + 1) b ▹ p) M)) q.1))

range_over : (p : Prog) (M : List ℕ) (k n b : ℕ) → suc b ≤ n + k → length M < n → run short (range n b ▹ p) M ≡ none
range_over p M zero n b h l = run_range_empty p M short n b (omega arith)
range_over p M (suc k) n b h l = go (range_over p M k (n + 1) b (omega arith) (omega arith)) (leb n b) refl
  where
    go : run short (range (n + 1) b ▹ p) M ≡ none → (x : Bool) → leb n b ≡ x → run short (range n b ▹ p) M ≡ none
    go ih true e = run_range p M n b (leb-true n b e) ∙ rw (run_jump_none short p M n l, ih)
    go ih false e = run_range_empty p M short n b (leb-false n b e)

range_short : (p : Prog) (M : List ℕ) (n b : ℕ) → length M < n → run short (range n b ▹ p) M ≡ none
range_short p M n b l = range_over p M (suc b) n b (omega arith) l

-- in reverse: lengths that M has no room for change nothing
module _ (p : Prog) (M : List ℕ) (a : ℕ) where
  below_skip : (n : ℕ) → length M < n - 1 → below a n p M ≡ below a (n - 1) p M
  below_skip n l = go (leb n a) refl
    where
      go : (x : Bool) → leb n a ≡ x → below a n p M ≡ below a (n - 1) p M
      go true e =
          let h : n ≤ a = leb-true n a e in
          below_none p M a n h ∙ sym (below_none p M a (n - 1) (omega arith))
      go false e = below_step p M a n (leb-false n a e) ∙ rw (run_jump_none long p M (n - 1) l)

  below_room : (k : ℕ) → below a (length M + k + 1) p M ≡ below a (length M + 1) p M
  below_room zero = let e : length M + 0 + 1 ≡ length M + 1 = omega arith in ap (λ (n : ℕ). below a n p M) e
  below_room (suc k) =
      let e : length M + suc k + 1 - 1 ≡ length M + k + 1 = omega arith in
      below_skip (length M + suc k + 1) (omega arith) ∙ ap (λ (n : ℕ). below a n p M) e ∙ below_room k

  range_within : (b : ℕ) → run long (range a b ▹ p) M ≡ below a (min b (length M) + 1) p M
  range_within b = go (leb b (length M)) refl
    where
      go : (x : Bool) → leb b (length M) ≡ x → run long (range a b ▹ p) M ≡ below a (min b (length M) + 1) p M
      go true e =
          let h : b ≤ length M = leb-true b (length M) e in
          let m : b ≡ min b (length M) = omega arith in
          range_below p M a b ∙ ap (λ (n : ℕ). below a (n + 1) p M) m
      go false e =
          let h : length M < b = leb-false b (length M) e in
          let m : b ≡ length M + (b - length M) = omega arith in
          let o : length M ≡ min b (length M) = omega arith in
          range_below p M a b ∙ ap (λ (n : ℕ). below a (n + 1) p M) m ∙ below_room (b - length M) ∙ ap (λ (n : ℕ). below a (n + 1) p M) o

pub range_back : (p : Prog) (M : List ℕ) (a b n : ℕ) → n ≡ min b (length M) → run long (range a b ▹ p) (reverse M) ≡ below a (n + 1) p (reverse M)
range_back p M a b n e =
    let l : min b (length (reverse M)) ≡ n = ap (min b) (length-reverse M) ∙ sym e in
    range_within p (reverse M) a b ∙ ap (λ (k : ℕ). below a (k + 1) p (reverse M)) l

-- of the lengths from a up to n, not including it, the longest
module _ (p : Prog) (M : List ℕ) (a n : ℕ) (h : a < n) where
  module _ (N : List ℕ) (d : N ≡ drop (n - 1) M) (l : n - 1 ≤ length M) where
    longest : below a n p M ≡ or_else (run long p N) (below a (n - 1) p M)
    longest = below_step p M a n h ∙ ap (λ (x : Option (List ℕ)). or_else x (below a (n - 1) p M)) (run_jump long p M (n - 1) l ∙ ap (run long p) (sym d))

    below_next : None ≡ answer (run long p N) → below a n p M ≡ below a (n - 1) p M
    below_next e = longest ∙ ap (λ (x : Option (List ℕ)). or_else x (below a (n - 1) p M)) (answer_none (run long p N) e)

    below_take : (k : ℕ) → Some k ≡ answer (run long p N) → Some k ≡ answer (below a n p M)
    below_take k e =
        let q = answer_some (run long p N) k e in
        e ∙ ap answer (q.1 ∙ sym (longest ∙ ap (λ (x : Option (List ℕ)). or_else x (below a (n - 1) p M)) q.1))

-- in either order: what is still to be tried where the shortest first would be at n, of the lengths from a to m, the longest that M has room for
abbrev pub untried : Order → ℕ → ℕ → ℕ → ℕ → Prog → List ℕ → Option (List ℕ)
untried short a b m n p M = run short (range n b ▹ p) M
untried long a b m n p M = below a (a + m + 1 - n) p M

module _ (p : Prog) (M : List ℕ) (a b m : ℕ) (e : m ≡ min b (length M)) where
  from_start : (o : Order) → run o (range a b ▹ p) M ≡ untried o a b m a p M
  from_start short = refl
  from_start long =
      let n : min b (length M) + 1 ≡ a + m + 1 - a = omega arith in
      range_within p M a b ∙ ap (λ (k : ℕ). below a k p M) n

  pub untried_start : {f : ℕ} → a ≡ f → (o : Order) → run o (range f b ▹ p) M ≡ untried o a b m a p M
  untried_start g o = ap (λ (k : ℕ). run o (range k b ▹ p) M) (sym g) ∙ from_start o

  pub untried_end : (o : Order) (n : ℕ) → m < n → untried o a b m n p M ≡ none
  untried_end short n h = go (leb n b) refl
    where
      go : (x : Bool) → leb n b ≡ x → run short (range n b ▹ p) M ≡ none
      go true f = let k = leb-true n b f in range_short p M n b (omega arith)
      go false f = run_range_empty p M short n b (leb-false n b f)
  untried_end long n h = below_none p M a (a + m + 1 - n) (omega arith)

  module _ (n : ℕ) (h : a ≤ n) (l : n ≤ m) where
    pub untried_next : (o : Order) (N : List ℕ) → N ≡ drop (length_at o a m n) M → None ≡ answer (run o p N) → untried o a b m n p M ≡ untried o a b m (n + 1) p M
    untried_next short N d f = range_next p M N n b d (omega arith) (omega arith) f
    untried_next long N d f =
        let j : a + m - n ≡ a + m + 1 - n - 1 = omega arith in
        let k : a + m + 1 - n - 1 ≡ a + m + 1 - (n + 1) = omega arith in
        below_next p M a (a + m + 1 - n) (omega arith) N (d ∙ ap (λ (i : ℕ). drop i M) j) (omega arith) f ∙ ap (λ (i : ℕ). below a i p M) k

    pub untried_take : (o : Order) (N : List ℕ) → N ≡ drop (length_at o a m n) M → (k : ℕ) → Some k ≡ answer (run o p N) → Some k ≡ answer (untried o a b m n p M)
    untried_take short N d k f = range_take p M N n b d (omega arith) (omega arith) k f
    untried_take long N d k f =
        let j : a + m - n ≡ a + m + 1 - n - 1 = omega arith in
        below_take p M a (a + m + 1 - n) (omega arith) N (d ∙ ap (λ (i : ℕ). drop i M) j) (omega arith) k f

-- a range of no bytes changes nothing
rows_zero : (o : Order) (p : Prog) → rows o (range 0 0 ▹ p) ≡ rows o p
unfolding rows lengths rising
rows_zero short p = one_times (rows short p)
rows_zero long p = one_times (rows long p)

pub no_range : (o : Order) (bs : Branches) (p : Prog) (M : List ℕ) → run o (alt bs ▹ range 0 0 ▹ p) M ≡ run o (alt bs ▹ p) M
unfolding run rows
no_range o bs p M = ap (λ (R : List Row). found (rows_in o bs ⊗ R) M) (rows_zero o p)
