-- From a text to what the checks say of a haystack, for every pattern that compiles and every window. Assumes nothing.
use Rattle.std.proofs.Common.{◌≡◌, refl, sym, ap, ◌∙◌, subst, Bool, true, false, cond, List, ◌++◌, ℕ, ◌-◌, length, take, drop, replicate, take_at}
use Rattle.base.specs.Pools.{filled}
use Rattle.def_meaning.specs.Limits.{node_pool}
use Rattle.def_meaning.specs.Tokens.{Tokens, Spans}
use Rattle.def_reading.specs.Lists.{Verdict, accepted, rejected, reading}
use Rattle.def_reading.proofs.PieceLaws.{never}
use Rattle.def_grammar.proofs.Derivable.{accepted_derived}
use Rattle.def_compiling.specs.Compile.{Compiled, compiled, refused, compile}
use Rattle.compiledoor.specs.Door.{gives, refuses, room, compiled_says, verdict_says, compiled_forward, compiled_reverse, verdict_forward, verdict_reverse, compile_says, forward_leaves, reverse_leaves}
use Rattle.compiledoor.proofs.Promises as promised
use Rattle.def_promise.specs.Pattern.{ForwardDoor, ReverseDoor, PatternForward, PatternReverse}
use Rattle.def_promise.proofs.Answers.{forward_door, reverse_door}

-- what a text that compiles is read as, up to the offset reached, and compiled to, and that the pools hold these words in front
record Compiles (t p q : List ℕ) (reached n m : ℕ) : Type 0 where
  tokens : Tokens
  forward : List ℕ
  reverse : List ℕ
  read : reading t ≡ accepted reached tokens
  done : compile tokens ≡ compiled forward reverse
  forward_words_lem : take n (forward_leaves t p q) ≡ forward
  reverse_words_lem : take m (reverse_leaves t p q) ≡ reverse

module _ (t p q : List ℕ) (reached n m : ℕ) where
  in_front : (f x : List ℕ) (k : ℕ) → length f ≡ k → take k (filled node_pool f x) ≡ f
  unfolding filled
  in_front f x k l = take_at f (replicate (node_pool - length f) 0 ++ drop node_pool x) k l

  of_compiled : (e : ℕ) (ts : Tokens) (c : Compiled) → reading t ≡ accepted e ts → compile ts ≡ c → compiled_says e c ≡ gives reached n m → take n (forward_leaves t p q) ≡ take n (compiled_forward c p) → take m (reverse_leaves t p q) ≡ take m (compiled_reverse c q) → Compiles t p q reached n m
  unfolding compiled_says compiled_forward compiled_reverse
  of_compiled e ts (compiled f r) a b g x y = record {
    tokens = ts;
    forward = f;
    reverse = r;
    read = a ∙ ap (λ (x : ℕ). accepted x ts) (cc);
    done = b;
    forward_words_lem = x ∙ in_front f p n (cc);
    reverse_words_lem = y ∙ in_front r q m (cc);
  }
  of_compiled e ts (refused z) a b g x y = never (cc)

  of_verdict : (o : Verdict) → reading t ≡ o → verdict_says o ≡ gives reached n m → take n (forward_leaves t p q) ≡ take n (verdict_forward o p) → take m (reverse_leaves t p q) ≡ take m (verdict_reverse o q) → Compiles t p q reached n m
  unfolding verdict_says verdict_forward verdict_reverse
  of_verdict (accepted e ts) a g x y = of_compiled e ts (compile ts) a refl g x y
  of_verdict (rejected z k) a g x y = never (cc)

  compiles : compile_says t p q ≡ gives reached n m → Compiles t p q reached n m
  unfolding compile_says forward_leaves reverse_leaves
  compiles g = go (room p q) refl
    where
      go : (b : Bool) → room p q ≡ b → Compiles t p q reached n m
      go true h =
          of_verdict (reading t) refl (sym (ap (λ (b : Bool). cond b (verdict_says (reading t)) (refuses 18 0)) h) ∙ g)
          (ap (λ (b : Bool). take n (cond b (verdict_forward (reading t) p) p)) h)
          (ap (λ (b : Bool). take m (cond b (verdict_reverse (reading t) q) q)) h)
      go false h =
          let z : refuses 18 0 ≡ gives reached n m = sym (ap (λ (b : Bool). cond b (verdict_says (reading t)) (refuses 18 0)) h) ∙ g in
          never (cc)

  -- The text t is read up to the offset reached and compiles to n forward and m reverse words, which the pools then hold in front.
  module _ (g : compile_says t p q ≡ gives reached n m) where
    -- Then t up to there is a pattern, and the forward door, asked with the forward words about any window of any haystack, answers for its spans;
    pub pattern_forward : PatternForward t p q reached n
    pattern_forward =
        let c = compiles g in
        let h = promised.forward_sound t reached c.tokens c.forward c.reverse c.read c.done in
        let exact = promised.forward_exact t reached c.tokens c.forward c.reverse c.read c.done in
        (c.tokens, accepted_derived t reached c.tokens c.read, subst (ForwardDoor (Spans c.tokens)) (sym c.forward_words_lem) (forward_door (Spans c.tokens) c.forward h exact))

    -- and the reverse door, asked with the reverse words, likewise.
    pub pattern_reverse : PatternReverse t p q reached m
    pattern_reverse =
        let c = compiles g in
        let h = promised.reverse_sound t reached c.tokens c.forward c.reverse c.read c.done in
        let exact = promised.reverse_exact t reached c.tokens c.forward c.reverse c.read c.done in
        (c.tokens, accepted_derived t reached c.tokens c.read, subst (ReverseDoor (Spans c.tokens)) (sym c.reverse_words_lem) (reverse_door (Spans c.tokens) c.reverse h exact))
