-- From what was emitted to what compiling is. Assumes nothing.
use Rattle.std.proofs.Common.{◌≡◌, refl, sym, ap, ap₂, ◌∙◌, Bool, true, false, not, ◌&&◌, ◌||◌, leb, Result, Ok, Err, ◌⊎◌, inl, inr, List, ◌++◌, ℕ, ◌*◌, ◌≤◌, ◌<◌, arith, length, take, drop}
use Rattle.std.proofs.Math.Seq.{take_at}
use Rattle.std.proofs.lemmas.Bool.{le-leb, lt-leb}
use Rattle.base.specs.declared.Refusal.{Refusal}
use Rattle.base.specs.declared.Refusal.TheVariants.{NotSimple, TooManyNodes, BranchTooLong}
use Rattle.def_meaning.specs.Limits.{node_limit, token_pool, entry_limit}
use Rattle.def_meaning.specs.Tokens.{Tokens}
use Rattle.def_meaning.specs.Values.{Spelled}
use Rattle.def_meaning.specs.Entries.{token_count, entries}
use Rattle.def_meaning.specs.Programs.{Prog, end}
use Rattle.def_meaning.proofs.TokenLaws.{count_few}
use Rattle.def_compiling.specs.ProgramWords.{words_of, nodes}
use Rattle.def_compiling.specs.Compiling.{added, forward_program, reverse_program, forward_words, reverse_words}
use Rattle.def_compiling.specs.Compile.{simple, short, few, compile}
use Rattle.def_compiling.proofs.CountLaws.{added_words}
use Rattle.emit.specs.Lists.{tokens_program, offsets, Outlined}
use Rattle.emit.proofs.OrderLaws.{directed, offsets_count}
use Rattle.emit.proofs.LinkLaws.{directed_long, tokens_program_lem}
use Rattle.compiler.specs.declared.Sizes.{Sizes}
use Rattle.compiler.specs.Made.{Makes, Puts, limited}

abbrev sizes : ℕ → ℕ → Result Sizes Refusal
sizes n m = Ok (record { forward = n; reverse = m })

module _ (ws : List ℕ) (ts : Tokens) (e : ws ≡ entries ts) where
  pub count_fits : length ws ≤ token_pool → (count : ℕ) → count ≡ token_count ts → count ≤ entry_limit
  count_fits l count f = omega (arith, count_few ts, ap length e)

  module _ (s : Spelled ts) (y : simple ts ≡ true) (count : ℕ) (sts o : List ℕ) (c : count ≡ token_count ts) (g : sts ≡ offsets 0 ts ++ drop count o) where
    abbrev starts : List ℕ
    starts = take count sts

    pub outlined : Outlined ws (take count sts)
    outlined =
        record {
          tokens = ts;
          entered = e;
          started = ap (take count) g ∙ take_at (offsets 0 ts) (drop count o) count (offsets_count 0 ts ∙ sym c);
          spelled = s;
          simply = y;
        }

    program_is : (b : Bool) → tokens_program b ws starts ≡ added (directed b ts) end
    unfolding outlined
    program_is b = tokens_program_lem b ws starts outlined

    pub program_few : (b : Bool) → 4 * nodes (tokens_program b ws starts) ≤ length ws
    unfolding words_of
    program_few b = omega (arith, ap nodes (program_is b), added_words (directed b ts) end, directed_long b ts, ap length e)

    forward_is : tokens_program false ws starts ≡ forward_program ts
    unfolding forward_program
    forward_is = program_is false

    reverse_is : tokens_program true ws starts ≡ reverse_program ts
    unfolding reverse_program
    reverse_is = program_is true

    compile_is : compile ts ≡ limited (short (forward_program ts) && short (reverse_program ts)) (leb (nodes (forward_program ts)) node_limit && leb (nodes (reverse_program ts)) node_limit) (words_of (forward_program ts)) (words_of (reverse_program ts))
    unfolding compile limited few forward_words reverse_words
    compile_is = rw y

    -- what was emitted
    module _ (first second o₁ o₂ : List ℕ) (n m : ℕ) (lf lr : Bool) (en : n ≡ nodes (tokens_program false ws starts)) (em : m ≡ nodes (tokens_program true ws starts)) (ef : lf ≡ not (short (tokens_program false ws starts)))
        (er : lr ≡ not (short (tokens_program true ws starts))) (e₁ : first ≡ words_of (tokens_program false ws starts) ++ drop n o₁) (e₂ : second ≡ words_of (tokens_program true ws starts) ++ drop m o₂) where
      abbrev forward : List ℕ
      forward = words_of (tokens_program false ws starts)

      abbrev reverse : List ℕ
      reverse = words_of (tokens_program true ws starts)

      tested : compile ts ≡ limited (not (lf || lr)) (leb n node_limit && leb m node_limit) forward reverse
      tested =
          compile_is
          ∙ ap₂ (λ (x : Prog) (y : Prog). limited (short x && short y) (leb (nodes x) node_limit && leb (nodes y) node_limit) (words_of x) (words_of y)) (sym forward_is) (sym reverse_is)
          ∙ ap₂ (λ (x : Bool) (y : Bool). limited x y forward reverse) (sym (both _ _) ∙ ap not (ap₂ ◌||◌ (sym ef) (sym er))) (ap₂ (λ (x : ℕ) (y : ℕ). leb x node_limit && leb y node_limit) (sym en) (sym em))
        where
          both : (x y : Bool) → not (not x || not y) ≡ (x && y)
          both true true = refl
          both true false = refl
          both false y = refl

      pub made_long : (lf || lr) ≡ true → Makes (compile ts) (Err BranchTooLong) first second
      unfolding limited
      made_long h = rw (tested, h) refl

      pub made_many : (lf || lr) ≡ false → (node_limit < n) ⊎ ((n ≤ node_limit) × (node_limit < m)) → Makes (compile ts) (Err TooManyNodes) first second
      unfolding limited
      made_many h (inl l) = rw (tested, h, lt-leb n node_limit l) refl
      made_many h (inr (k, l)) = rw (tested, h, le-leb n node_limit k, lt-leb m node_limit l) refl

      pub made_both : (lf || lr) ≡ false → n ≤ node_limit → m ≤ node_limit → Makes (compile ts) (Ok (record { forward = n; reverse = m })) first second
      unfolding limited
      made_both h k l =
          rw (tested, h, le-leb n node_limit k, le-leb m node_limit l)
          (ap₂ sizes en em, ap (take (length forward)) e₁ ∙ take_at forward (drop n o₁) (length forward) refl, ap (take (length reverse)) e₂ ∙ take_at reverse (drop m o₂) (length reverse) refl)

-- 12
pub not_simple_made : (ts : Tokens) (p q : List ℕ) → simple ts ≡ false → Puts (compile ts) (Err NotSimple) p p q q
unfolding compile
not_simple_made ts p q e = rw e (refl, refl, refl)
