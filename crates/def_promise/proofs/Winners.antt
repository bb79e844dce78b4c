-- What is chosen in a run, and between runs, is exactly what wins there. Assumes nothing.
use Rattle.std.proofs.Common.{◌≡◌, refl, sym, ap, ap₂, ◌∙◌, subst, Bool, true, false, cond, ◌&&◌, ◌||◌, ◌⊎◌, inl, inr, ⊎_elim, ◌↔◌, List, [], ◌∷◌, ◌++◌, map, ℕ, ◌≤◌, ◌<◌, arith, eqb, leb, ltb, length, ltb-true, ltb-false, lt-ltb, le-ltb, leb-true, le-leb, eqb-true}
use Rattle.std.proofs.Math.Option.{Option, none, some}
use mathlib.Core.List.{Memᴰ}
use borrow.Author.Tests.{eqb-false}
use mathlib.Core.List.Memᴰ
use Rattle.def_meaning.specs.Limits.{literal_limit, combination_limit}
use Rattle.def_meaning.specs.Tokens.{Tokens, nothing}
use Rattle.atoms.specs.Score.{literal_score}
use Rattle.def_reading.proofs.PieceLaws.{never}
use Rattle.def_picking.specs.Literals.{literals, combinations}
use Rattle.def_picking.specs.Runs.{runs, parts, is_literal, Slice, slice, slices}
use Rattle.def_picking.specs.Candidates.{least, Ranked, ranked, skipped, excessive, rank_value, counted, combined, rank, Candidate, unranked, chosen, too_many_literals, widened, against, rank_of, best, bytes_of, strong, alone_or, in_run, beats, between, among_runs, in_pattern}
use Rattle.def_picking.proofs.RefusalLaws.{excessive_is}
use Rattle.def_promise.proofs.Best.{against_next, best_from, Ranking, Ordered, best_is}
use Rattle.def_promise.specs.Winners.{Offers, Each, Higher, Better, Best, Strong, NoneStrong, WinsRun, Wins}
use Rattle.def_promise.specs.Winners as table

-- ---- the two relations

-- by rank
abbrev rank_over : ℕ → Tokens → ℕ → Tokens → Bool
rank_over n us m ts = ltb m n

abbrev RankOver : ℕ → Tokens → ℕ → Tokens → Type 0
RankOver n us m ts = m < n

higher_told : {c d : Candidate} → Higher c d → Ranking RankOver c d
higher_told (table.above h) = h
higher_told table.over_none = tt

higher_shown : (c d : Candidate) → Ranking RankOver c d → Higher c d
higher_shown unranked d h = absurd h
higher_shown (chosen n us) unranked h = table.over_none
higher_shown (chosen n us) (chosen m ts) h = table.above h
higher_shown (chosen n us) too_many_literals h = absurd h
higher_shown too_many_literals d h = absurd h

higher_ordered : Ordered Higher RankOver rank_over
higher_ordered = record {
  told = λ c d h. higher_told h;
  shown = higher_shown;
  passes = λ n m us ts e. ltb-true m n e;
  fails = λ n m us ts e h. let k = ltb-false m n e in omega arith;
  chains = λ n m k us ts vs h g. omega arith;
  outdoes = λ n m k us ts vs h f. omega arith;
}

-- by rank, then by the shortest literal
abbrev shortest : Tokens → ℕ
shortest ts = least length (literals ts)

abbrev LengthOver : ℕ → Tokens → ℕ → Tokens → Type 0
LengthOver n us m ts = (m < n) ⊎ ((m ≡ n) × (shortest ts < shortest us))

better_told : {c d : Candidate} → Better c d → Ranking LengthOver c d
better_told (table.higher (table.above h)) = inl h
better_told (table.higher table.over_none) = tt
better_told (table.longer h) = inr (refl, h)

better_shown : (c d : Candidate) → Ranking LengthOver c d → Better c d
better_shown unranked d h = absurd h
better_shown (chosen n us) unranked h = table.higher table.over_none
better_shown (chosen n us) (chosen m ts) (inl h) = table.higher (table.above h)
better_shown (chosen n us) (chosen m ts) (inr (e, h)) = subst (λ (k : ℕ). Better (chosen n us) (chosen k ts)) (sym e) (table.longer h)
better_shown (chosen n us) too_many_literals h = absurd h
better_shown too_many_literals d h = absurd h

beats_passes : (n m : ℕ) (us ts : Tokens) → beats n us m ts ≡ true → LengthOver n us m ts
unfolding beats
beats_passes n m us ts h = go (ltb m n) (eqb m n) (ltb (shortest ts) (shortest us)) refl refl refl h
  where
    go : (a b c : Bool) → ltb m n ≡ a → eqb m n ≡ b → ltb (shortest ts) (shortest us) ≡ c → a || (b && c) ≡ true → LengthOver n us m ts
    go true b c e f g k = inl (ltb-true m n e)
    go false true true e f g k = inr (eqb-true m n f, ltb-true (shortest ts) (shortest us) g)
    go false true false e f g k = never (cc)
    go false false c e f g k = never (cc)

beats_fails : (n m : ℕ) (us ts : Tokens) → beats n us m ts ≡ false → LengthOver n us m ts → ⊥
unfolding beats
beats_fails n m us ts h = go (ltb m n) (eqb m n) (ltb (shortest ts) (shortest us)) refl refl refl h
  where
    go : (a b c : Bool) → ltb m n ≡ a → eqb m n ≡ b → ltb (shortest ts) (shortest us) ≡ c → a || (b && c) ≡ false → LengthOver n us m ts → ⊥
    go true b c e f g k = never (cc)
    go false true true e f g k = never (cc)
    go false true false e f g k = λ (x : LengthOver n us m ts). ⊎_elim (λ (l : m < n). let z = ltb-false m n e in omega arith) (λ (l : (m ≡ n) × (shortest ts < shortest us)). let y = l.1 in let z = ltb-false (shortest ts) (shortest us) g in omega arith) x
    go false false c e f g k = λ (x : LengthOver n us m ts). ⊎_elim (λ (l : m < n). let z = ltb-false m n e in omega arith) (λ (l : (m ≡ n) × (shortest ts < shortest us)). eqb-false m n f l.0) x

longer_chains : (n m k : ℕ) (us ts vs : Tokens) → LengthOver n us m ts → LengthOver m ts k vs → LengthOver n us k vs
longer_chains n m k us ts vs (inl h) (inl g) = inl (omega arith)
longer_chains n m k us ts vs (inl h) (inr (e, g)) = inl (omega arith)
longer_chains n m k us ts vs (inr (e, h)) (inl g) = inl (omega arith)
longer_chains n m k us ts vs (inr (e, h)) (inr (f, g)) = inr (f ∙ e, omega arith)

longer_outdoes : (n m k : ℕ) (us ts vs : Tokens) → LengthOver n us m ts → (LengthOver k vs m ts → ⊥) → LengthOver n us k vs
longer_outdoes n m k us ts vs (inl h) f = let low : m < k → ⊥ = λ l. f (inl l) in inl (omega arith)
longer_outdoes n m k us ts vs (inr (e, h)) f = go (ltb k m) refl
  where
    low : m < k → ⊥
    low l = f (inl l)

    go : (b : Bool) → ltb k m ≡ b → LengthOver n us k vs
    go true l = let i = ltb-true k m l in inl (omega arith)
    go false l =
        let i = ltb-false k m l in
        let j = low in
        let same : k ≡ m = omega arith in
        let short : shortest ts < shortest vs → ⊥ = λ x. f (inr (sym same, x)) in
        inr (same ∙ e, omega arith)

better_ordered : Ordered Better LengthOver beats
better_ordered = record {
  told = λ c d h. better_told h;
  shown = better_shown;
  passes = beats_passes;
  fails = beats_fails;
  chains = longer_chains;
  outdoes = longer_outdoes;
}

-- ---- what each of some things offers

module _ {A : Type 0} (Offer : A → Candidate → Type 0) (of : A → Candidate) where
  each_shown : ((x : A) → Offer x (of x)) → (xs : List A) → Each Offer xs (map of xs)
  each_shown f [] = table.end
  each_shown f (x ∷ xs) = table.next (f x) (each_shown f xs)

  each_told : ((x : A) (c : Candidate) → Offer x c → of x ≡ c) → {xs : List A} {cs : List Candidate} → Each Offer xs cs → map of xs ≡ cs
  each_told f table.end = refl
  each_told f (table.next {x = x} {c = c} h k) = ap₂ (λ (d : Candidate) (ds : List Candidate). d ∷ ds) (f x c h) (each_told f k)

-- ---- slices

abbrev offered : Slice → Ranked → Candidate
offered s (ranked n) = chosen n (widened s)
offered s skipped = unranked
offered s excessive = too_many_literals

abbrev offer : Slice → Candidate
offer s = offered s (rank_of s)

rank_skips : (ts : Tokens) → combination_limit < combinations ts → rank ts ≡ skipped
unfolding rank combined
rank_skips ts h = rw (lt-ltb combination_limit (combinations ts) h)

rank_ranks : (ts : Tokens) → combinations ts ≤ combination_limit → length (literals ts) ≤ literal_limit → rank ts ≡ ranked (rank_value ts)
unfolding rank combined counted
rank_ranks ts h g = rw (le-ltb combination_limit (combinations ts) h) (rw (le-ltb literal_limit (length (literals ts)) g))

offers_shown : (s : Slice) → Offers s (offer s)
unfolding rank_of widened
offers_shown (slice prior own next) = go (ltb combination_limit (combinations own)) (ltb literal_limit (length (literals own))) refl refl
  where
    by : (r : Ranked) → rank own ≡ r → Offers (slice prior own next) (offered (slice prior own next) r) → Offers (slice prior own next) (offered (slice prior own next) (rank own))
    by r e h = subst (λ (x : Ranked). Offers (slice prior own next) (offered (slice prior own next) x)) (sym e) h

    go : (a b : Bool) → ltb combination_limit (combinations own) ≡ a → ltb literal_limit (length (literals own)) ≡ b → Offers (slice prior own next) (offered (slice prior own next) (rank own))
    go true b e f = let h = ltb-true combination_limit (combinations own) e in by skipped (rank_skips own h) (table.skipped h)
    go false true e f =
        let h = ltb-false combination_limit (combinations own) e in
        let g = ltb-true literal_limit (length (literals own)) f in
        by excessive ((excessive_is own).1 (h, g)) (table.exceeds h g)
    go false false e f =
        let h = ltb-false combination_limit (combinations own) e in
        let g = ltb-false literal_limit (length (literals own)) f in
        by (ranked (rank_value own)) (rank_ranks own h g) (table.ranks h g)

offers_told : {s : Slice} {c : Candidate} → Offers s c → offer s ≡ c
unfolding rank_of widened
offers_told (table.ranks {prior = prior} {own = own} {next = next} h g) = ap (offered (slice prior own next)) (rank_ranks own h g)
offers_told (table.skipped {prior = prior} {own = own} {next = next} h) = ap (offered (slice prior own next)) (rank_skips own h)
offers_told (table.exceeds {prior = prior} {own = own} {next = next} h g) = ap (offered (slice prior own next)) ((excessive_is own).1 (h, g))

against_offered : (c : Candidate) (s : Slice) (r : Ranked) → against c s r ≡ against_next rank_over c (offered s r)
unfolding against
against_offered unranked s (ranked n) = refl
against_offered unranked s skipped = refl
against_offered unranked s excessive = refl
against_offered (chosen m ts) s (ranked n) = refl
against_offered (chosen m ts) s skipped = refl
against_offered (chosen m ts) s excessive = refl
against_offered too_many_literals s r = refl

best_offered : (ss : List Slice) (c : Candidate) → best c ss ≡ best_from rank_over c (map offer ss)
unfolding best
best_offered [] c = refl
best_offered (s ∷ ss) c = best_offered ss (against c s (rank_of s)) ∙ ap (λ (d : Candidate). best_from rank_over d (map offer ss)) (against_offered c s (rank_of s))

-- the best of slices
slices_best : (ss : List Slice) → (cs : List Candidate) × Each Offers ss cs × Best Higher cs (best unranked ss)
slices_best ss = (map offer ss, each_shown Offers offer offers_shown ss, (best_is Higher RankOver rank_over higher_ordered (map offer ss) (best unranked ss)).0 (sym (best_offered ss unranked)))

best_slices : (ss : List Slice) (cs : List Candidate) (c : Candidate) → Each Offers ss cs → Best Higher cs c → best unranked ss ≡ c
best_slices ss cs c h b =
    best_offered ss unranked ∙ ap (best_from rank_over unranked) (each_told Offers offer (λ s d k. offers_told k) h) ∙ (best_is Higher RankOver rank_over higher_ordered cs c).1 b

-- ---- strong parts

abbrev strong_test : Tokens → Bool
strong_test p = is_literal p && leb 80 (literal_score (bytes_of p))

is_strong : (p : Tokens) → Strong p → strong_test p ≡ true
is_strong p (e, h) = rw e (le-leb 80 (literal_score (bytes_of p)) h)

test_strong : (p : Tokens) → strong_test p ≡ true → Strong p
test_strong p h = go (is_literal p) (leb 80 (literal_score (bytes_of p))) refl refl h
  where
    go : (a b : Bool) → is_literal p ≡ a → leb 80 (literal_score (bytes_of p)) ≡ b → a && b ≡ true → Strong p
    go true true e f k = (e, leb-true 80 (literal_score (bytes_of p)) f)
    go true false e f k = never (cc)
    go false b e f k = never (cc)

not_strong : (p : Tokens) → (Strong p → ⊥) → strong_test p ≡ false
not_strong p f = go (strong_test p) refl
  where
    go : (b : Bool) → strong_test p ≡ b → strong_test p ≡ false
    go true e = absurd (f (test_strong p e))
    go false e = e

abbrev FirstStrong : List Tokens → Tokens → Type 0
FirstStrong ps p = (before : List Tokens) × (after : List Tokens) × (ps ≡ before ++ (p ∷ after)) × NoneStrong before × Strong p

none_before : (p : Tokens) (ps : List Tokens) → (Strong p → ⊥) → NoneStrong ps → NoneStrong (p ∷ ps)
none_before p ps f w q m h = ⊎_elim (λ (e : q ≡ p). f (subst Strong e h)) (λ (k : Memᴰ q ps). w q k h) (Memᴰ.cases_cons m)

abbrev Sought : List Tokens → Option Tokens → Type 0
Sought ps (some p) = FirstStrong ps p
Sought ps none = NoneStrong ps

sought : (ps : List Tokens) → Sought ps (strong ps)
unfolding strong
sought [] = λ p m h. Memᴰ.not-nil m
sought (p ∷ ps) = go (strong_test p) refl (sought ps)
  where
    further : (Strong p → ⊥) → (r : Option Tokens) → Sought ps r → Sought (p ∷ ps) r
    further f none w = none_before p ps f w
    further f (some q) (a, b, e, w, h) = (p ∷ a, b, ap (λ (l : List Tokens). p ∷ l) e, none_before p a f w, h)

    go : (b : Bool) → strong_test p ≡ b → Sought ps (strong ps) → Sought (p ∷ ps) (cond b (some p) (strong ps))
    go true e r = ([], ps, refl, λ q m h. Memᴰ.not-nil m, test_strong p e)
    go false e r = further (λ h. never (let k = is_strong p h in cc)) (strong ps) r

strong_found : (before after : List Tokens) (p : Tokens) → NoneStrong before → Strong p → strong (before ++ (p ∷ after)) ≡ some p
unfolding strong
strong_found [] after p w h = rw (is_strong p h)
strong_found (q ∷ before) after p w h = rw (not_strong q (w q (Memᴰ.head refl))) (strong_found before after p (λ r m. w r (Memᴰ.tail m)) h)

strong_missing : (ps : List Tokens) → NoneStrong ps → strong ps ≡ none
unfolding strong
strong_missing [] w = refl
strong_missing (p ∷ ps) w = rw (not_strong p (w p (Memᴰ.head refl))) (strong_missing ps (λ q m. w q (Memᴰ.tail m)))

-- ---- in a run, and between runs

run_shown : (run : Tokens) → WinsRun run (in_run run)
unfolding in_run alone_or
run_shown run = go (strong (parts run)) (sought (parts run))
  where
    go : (r : Option Tokens) → Sought (parts run) r → WinsRun run (alone_or r (best unranked (slices (parts run) nothing)))
    go (some p) (a, b, e, w, h) = table.alone a b e w h
    go none w = let (cs, h, b) = slices_best (slices (parts run) nothing) in table.a_slice w h b

run_told : (run : Tokens) {c : Candidate} → WinsRun run c → in_run run ≡ c
unfolding in_run alone_or
run_told run (table.alone {p = p} a b e w h) = rw (ap strong e ∙ strong_found a b p w h)
run_told run (table.a_slice {c = c} {cs = cs} w h b) = rw (strong_missing (parts run) w) (best_slices (slices (parts run) nothing) cs c h b)

-- what is chosen in a run is what wins there
pub run_wins : (run : Tokens) (c : Candidate) → (in_run run ≡ c) ↔ WinsRun run c
run_wins run c = (λ e. subst (WinsRun run) e (run_shown run), λ w. run_told run w)

between_next : (c d : Candidate) → between c d ≡ against_next beats c d
unfolding between
between_next unranked d = refl
between_next (chosen m ts) unranked = refl
between_next (chosen m ts) (chosen n us) = refl
between_next (chosen m ts) too_many_literals = refl
between_next too_many_literals d = refl

among_next : (rs : List Tokens) (c : Candidate) → among_runs c rs ≡ best_from beats c (map in_run rs)
unfolding among_runs
among_next [] c = refl
among_next (r ∷ rs) c = among_next rs (between c (in_run r)) ∙ ap (λ (d : Candidate). best_from beats d (map in_run rs)) (between_next c (in_run r))

-- and what is chosen in all runs is what wins
pub pattern_wins : (ts : Tokens) (c : Candidate) → (in_pattern ts ≡ c) ↔ Wins ts c
unfolding in_pattern
pattern_wins ts c = (to, back)
  where
    to : among_runs unranked (runs ts) ≡ c → Wins ts c
    to e = table.a_run (each_shown WinsRun in_run run_shown (runs ts)) ((best_is Better LengthOver beats better_ordered (map in_run (runs ts)) c).0 (sym (among_next (runs ts) unranked) ∙ e))

    back : Wins ts c → among_runs unranked (runs ts) ≡ c
    back (table.a_run {cs = cs} h b) =
        among_next (runs ts) unranked ∙ ap (best_from beats unranked) (each_told WinsRun in_run (λ r d k. run_told r k) h) ∙ (best_is Better LengthOver beats better_ordered cs c).1 b

-- what wins between runs wins in one of them
winner_among : {rs : List Tokens} {cs : List Candidate} {c : Candidate} → Each WinsRun rs cs → Memᴰ c cs → (run : Tokens) × Memᴰ run rs × WinsRun run c
winner_among table.end m = absurd (Memᴰ.not-nil m)
winner_among (table.next {x = r} h k) m = ⊎_elim
    (λ e. (r, Memᴰ.head refl, subst (WinsRun r) (sym e) h))
    (λ q. let (run, i, w) = winner_among k q in (run, Memᴰ.tail i, w))
    (Memᴰ.cases_cons m)

pub winner_run : {ts : Tokens} {n : ℕ} {us : Tokens} → Wins ts (chosen n us) → (run : Tokens) × Memᴰ run (runs ts) × WinsRun run (chosen n us)
winner_run {n = n} {us = us} (table.a_run h (table.first f b)) =
    winner_among h (subst (Memᴰ (chosen n us)) (sym b.stands) (Memᴰ.append_right b.earlier (Memᴰ.head refl)))
