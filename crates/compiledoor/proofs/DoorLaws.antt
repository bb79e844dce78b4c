-- From what was read to what the door says. Assumes nothing.
use Rattle.std.proofs.Common.{◌≡◌, refl, sym, ap, ◌∙◌, false, Result, Ok, Err, IsErrAnd, MatchResult, List, [], ◌++◌, append-nil, append_assoc, ℕ, ◌-◌, ◌≤◌, ◌<◌, arith, leb, length, take, drop, replicate}
use Rattle.std.proofs.Math.Bool.{and-false}
use Rattle.std.proofs.Math.ListN.{length-take}
use Rattle.std.proofs.lemmas.Bool.{le-leb, lt-leb}
use Rattle.std.proofs.lemmas.List.{drop_all}
use Rattle.base.specs.declared.Refusal.{Refusal}
use Rattle.base.specs.declared.Refused.{Refused}
use Rattle.base.specs.Pools.{filled, cleared}
use Rattle.def_meaning.specs.Limits.{token_pool, node_pool}
use Rattle.def_meaning.specs.Tokens.{Tokens}
use Rattle.def_meaning.specs.Values.{Spelled}
use Rattle.def_meaning.specs.Entries.{entries}
use Rattle.def_reading.specs.Lists.{Verdict, accepted, rejected, reading}
use Rattle.def_reading.proofs.SpelledValues.{accepted_spelled}
use Rattle.readdoor.specs.declared.Reading.{Reading}
use Rattle.readdoor.specs.Door as read
use Rattle.readdoor.proofs.Got as into
use Rattle.def_compiling.specs.Compile.{Compiled, compiled, refused, compile}
use Rattle.compiler.specs.declared.Sizes.{Sizes}
use Rattle.compiler.specs.Made.{Fills}
use Rattle.compiler.specs.Walks.{Entered}
use Rattle.compiledoor.specs.declared.Compiled.{Compiled as Compiled'}
use Rattle.compiledoor.specs.Door.{CompileSaid, gives, refuses, compile_said, made_says, compiled_says, verdict_says, compiled_forward, compiled_reverse, verdict_forward, verdict_reverse, room, compile_says, forward_leaves, reverse_leaves, TextFills}

-- what was read stands in the pool
pub record Got (t q : List ℕ) (e u : ℕ) : Type 0 where
  pub tokens : Tokens
  pub verdict : reading t ≡ accepted e tokens
  pub spelled : Spelled tokens
  pub words : take u q ≡ entries tokens
  pub fits : u ≤ token_pool
  pub whole : Entered (take u q)

module _ (t p q : List ℕ) (r : Result Reading Refused) (a : read.read_said r ≡ read.read_says t p) (b : q ≡ read.read_leaves t p) (l : token_pool ≤ length p) where
  pub got : (x : Reading) → r ≡ Ok x → Got t q x.end x.words
  got x f =
      let g = into.got t p q r a b l x f in
      let s : Spelled g.tokens = accepted_spelled t x.end g.tokens g.verdict in
      let z : x.words - 0 ≡ x.words = omega arith in
      let w : take x.words q ≡ entries g.tokens = rw z at g.words in
      record {
        tokens = g.tokens;
        verdict = g.verdict;
        spelled = s;
        words = w;
        fits = g.fits;
        whole = record { tokens = g.tokens; entered = w; spelled = s; short = omega (arith, ap length w, g.few) };
      }

  pub got_refused : (z : Refused) → r ≡ Err z → reading t ≡ rejected z.why z.place
  got_refused z f = into.got_refused t p q r a b l z f

-- pools of just the words that are lent
abbrev zeros : List ℕ
zeros = replicate node_pool 0

zeros_cleared : (p : List ℕ) → length p ≡ node_pool → zeros ≡ cleared node_pool p
unfolding cleared
zeros_cleared p l = sym (append-nil zeros) ∙ ap (λ (x : List ℕ). zeros ++ x) (sym (drop_all node_pool p (omega arith)))

module _ (t p p' q q' : List ℕ) where
  -- the pools, when tokens were compiled
  made_text : (e : ℕ) (c : Compiled) (made : Result Sizes Refusal) → Fills c made p p' q q' → (made_says e made ≡ compiled_says e c) × (p' ≡ compiled_forward c p) × (q' ≡ compiled_reverse c q)
  unfolding compiled_says compiled_forward compiled_reverse
  made_text e (compiled f r) made (h, x, y) = (ap (made_says e) h, x, y)
  made_text e (refused z) made (h, x, y) = (ap (made_says e) h, x, y)

  pub text_compiled : (e : ℕ) (ts : Tokens) (made : Result Sizes Refusal) (s : CompileSaid) → reading t ≡ accepted e ts → s ≡ made_says e made → Fills (compile ts) made p p' q q' → TextFills (reading t) s p p' q q'
  unfolding verdict_says verdict_forward verdict_reverse
  text_compiled e ts made s g f h =
      let k = made_text e (compile ts) made h in
      rw g (f ∙ k.0, k.1, k.2)

-- an answer to tokens, with the offset reached
abbrev result_said : ℕ → Result Sizes Refused → Result Compiled' Refused
result_said e (Ok s) = Ok (record { reached = e; forward = s.forward; reverse = s.reverse })
result_said e (Err x) = Err x

-- what the door makes of the answer n to tokens: P is what the closure gives of a refusal
module _ (e : ℕ) (m : Result Sizes Refusal) (n : Result Sizes Refused) (P : Refusal → Refused → Type 0) (place : (w : Refusal) (y : Refused) → P w y → (y.why ≡ w) × (y.place ≡ 0)) (cases : MatchResult m (λ s. n ≡ Ok s) (λ w. IsErrAnd n (P w))) where
  pub said_in_ok : (s : Sizes) → n ≡ Ok s → gives e s.forward s.reverse ≡ made_says e m
  said_in_ok s f = made_ok m cases
    where
      made_ok : (m : Result Sizes Refusal) → MatchResult m (λ s. n ≡ Ok s) (λ w. IsErrAnd n (P w)) → gives e s.forward s.reverse ≡ made_says e m
      made_ok (Ok z) c = ap (λ (x : Result Sizes Refused). compile_said (result_said e x)) (sym f ∙ c)
      made_ok (Err w) c = absurd (rw f at c)

  pub said_in_err : (x : Refused) (r : Result Compiled' Refused) → n ≡ Err x → IsErrAnd r (λ y. y ≡ x) → compile_said r ≡ made_says e m
  said_in_err x (Ok y) f h = absurd h
  said_in_err x (Err y) f h = made_err m cases
    where
      made_err : (m : Result Sizes Refusal) → MatchResult m (λ s. n ≡ Ok s) (λ w. IsErrAnd n (P w)) → compile_said (Err y) ≡ made_says e m
      made_err (Ok z) c = ap (λ (x : Result Sizes Refused). compile_said (result_said e x)) (ap Err h ∙ sym f ∙ c)
      made_err (Err w) c =
          let k = place w x (rw f at c) in
          rw (h, k.0, k.1)

pub text_refused : (t p q : List ℕ) (z : Refused) → length p ≡ node_pool → length q ≡ node_pool → reading t ≡ rejected z.why z.place → TextFills (reading t) (compile_said (Err z)) p zeros q zeros
unfolding verdict_says verdict_forward verdict_reverse
text_refused t p q z l m g = rw g (refl, zeros_cleared p l, zeros_cleared q m)

-- the door, which lends the words in front
module _ (p : List ℕ) where
  cut : drop node_pool (take node_pool p) ≡ []
  cut = drop_all node_pool (take node_pool p) (omega (arith, length-take node_pool p))

  cleared_beyond : cleared node_pool (take node_pool p) ++ drop node_pool p ≡ cleared node_pool p
  unfolding cleared
  cleared_beyond = ap (λ (x : List ℕ). (zeros ++ x) ++ drop node_pool p) cut ∙ ap (λ (x : List ℕ). x ++ drop node_pool p) (append-nil zeros)

  filled_beyond : (f : List ℕ) → filled node_pool f (take node_pool p) ++ drop node_pool p ≡ filled node_pool f p
  unfolding filled
  filled_beyond f =
      let r : List ℕ = replicate (node_pool - length f) 0 in
      ap (λ (x : List ℕ). (f ++ (r ++ x)) ++ drop node_pool p) cut
      ∙ append_assoc f (r ++ []) (drop node_pool p)
      ∙ ap (λ (x : List ℕ). f ++ (x ++ drop node_pool p)) (append-nil r)

  compiled_beyond : (c : Compiled) → (compiled_forward c (take node_pool p) ++ drop node_pool p ≡ compiled_forward c p) × (compiled_reverse c (take node_pool p) ++ drop node_pool p ≡ compiled_reverse c p)
  unfolding compiled_forward compiled_reverse
  compiled_beyond (compiled f r) = (filled_beyond f, filled_beyond r)
  compiled_beyond (refused z) = (cleared_beyond, cleared_beyond)

  pub verdict_beyond : (x : Verdict) → (verdict_forward x (take node_pool p) ++ drop node_pool p ≡ verdict_forward x p) × (verdict_reverse x (take node_pool p) ++ drop node_pool p ≡ verdict_reverse x p)
  unfolding verdict_forward verdict_reverse
  verdict_beyond (accepted e ts) = compiled_beyond (compile ts)
  verdict_beyond (rejected z y) = (cleared_beyond, cleared_beyond)

abbrev pub Door : List ℕ → CompileSaid → List ℕ → List ℕ → List ℕ → List ℕ → Type 0
Door t s p p' q q' = (s ≡ compile_says t p q) × (p' ≡ forward_leaves t p q) × (q' ≡ reverse_leaves t p q)

module _ (t p q : List ℕ) where
  door_small : room p q ≡ false → Door t (refuses 18 0) p p q q
  unfolding compile_says forward_leaves reverse_leaves
  door_small e = rw e (refl, refl, refl)

  pub small_forward : length p < node_pool → Door t (refuses 18 0) p p q q
  small_forward h = door_small (rw (lt-leb node_pool (length p) h))

  pub small_reverse : length q < node_pool → Door t (refuses 18 0) p p q q
  small_reverse h = door_small (rw (lt-leb node_pool (length q) h) (and-false (leb node_pool (length p))))

  pub both_fit : node_pool ≤ length p → node_pool ≤ length q → (s : CompileSaid) (p₀ p' q₀ q' : List ℕ) → p₀ ≡ take node_pool p → q₀ ≡ take node_pool q → TextFills (reading t) s p₀ p' q₀ q' → Door t s p (p' ++ drop node_pool p) q (q' ++ drop node_pool q)
  unfolding compile_says forward_leaves reverse_leaves
  both_fit h g s p₀ p' q₀ q' e f (k, x, y) =
      rw (le-leb node_pool (length p) h, le-leb node_pool (length q) g) (
        k,
        ap (λ (z : List ℕ). z ++ drop node_pool p) (x ∙ ap (verdict_forward (reading t)) e) ∙ (verdict_beyond p (reading t)).0,
        ap (λ (z : List ℕ). z ++ drop node_pool q) (y ∙ ap (verdict_reverse (reading t)) f) ∙ (verdict_beyond q (reading t)).1,
      )
