-- The doors of reading, compiling and the mirror have the listed outcomes, and no others. Assumes nothing.
use Rattle.std.proofs.Common.{◌≡◌, refl, sym, ap, ap₂, ◌∙◌, subst, Bool, true, false, cond, ◌&&◌, ◌⊎◌, inl, inr, List, ℕ, ◌≤◌, ◌<◌, leb, ltb, leb-true, leb-false, le-leb, ltb-true, ltb-false, lt-ltb, le-ltb, length}
use Rattle.std.proofs.Math.Bool.{and-false}
use borrow.Author.Tests.{lt-leb}
use Rattle.base.specs.Pools.{filled, cleared}
use Rattle.def_meaning.specs.Limits.{node_limit, token_pool, node_pool}
use Rattle.def_meaning.specs.Tokens.{Tokens}
use Rattle.def_meaning.specs.Programs.{Prog, mirror}
use Rattle.def_meaning.specs.Words.{sound, mirror_words}
use Rattle.def_meaning.proofs.SoundLaws.{and_left, and_right}
use Rattle.def_reading.specs.Lists as text
use Rattle.def_reading.proofs.SpelledValues.{accepted_spelled}
use Rattle.def_grammar.specs.Grammar.{Derives}
use Rattle.def_grammar.proofs.Derivable.{accepted_derived, derived_accepted}
use Rattle.def_grammar.proofs.FaultLaws.{fault_exactly}
use Rattle.readdoor.specs.Door as readdoor
use Rattle.def_compiling.specs.Compile as tokens
use Rattle.compiledoor.specs.Door as compiledoor
use Rattle.mirror.specs.MirrorDoor as mirrordoor
use Rattle.def_meaning.specs.NodeWords.{Nodes}
use Rattle.def_promise.specs.Outcomes.{Reads, Makes, Compiles, Mirrors}
use Rattle.def_promise.specs.Outcomes as table
use Rattle.def_meaning.proofs.NodeWords.{sound_listed, not_sound, program_listed, sound_says}
use Rattle.def_promise.proofs.OneWording.{one_wording, mirror_wording}
use Rattle.def_promise.proofs.Makes.{makes}

-- reading
pub reads : (t p : List ℕ) → Reads t p (readdoor.read_says t p) (readdoor.read_leaves t p)
unfolding readdoor.read_says readdoor.read_leaves readdoor.verdict_says readdoor.verdict_leaves
reads t p = go (leb token_pool (length p)) refl (text.reading t) refl
  where
    go : (b : Bool) → leb token_pool (length p) ≡ b → (o : text.Verdict) → text.reading t ≡ o → Reads t p (cond b (readdoor.verdict_says o) (readdoor.refuses 18 0)) (cond b (readdoor.verdict_leaves o p) p)
    go true h (text.accepted e ts) g = table.Reads.accepted (leb-true token_pool (length p) h) (accepted_derived t e ts g)
    go true h (text.rejected x k) g = table.Reads.rejected (leb-true token_pool (length p) h) ((fault_exactly t x k).0 g)
    go false h o g = table.Reads.no_room (leb-false token_pool (length p) h)

read_so : (t p : List ℕ) (o : text.Verdict) → token_pool ≤ length p → text.reading t ≡ o → (readdoor.verdict_says o ≡ readdoor.read_says t p) × (readdoor.verdict_leaves o p ≡ readdoor.read_leaves t p)
unfolding readdoor.read_says readdoor.read_leaves
read_so t p o h e = (
  ap readdoor.verdict_says (sym e) ∙ ap (λ (b : Bool). cond b (readdoor.verdict_says (text.reading t)) (readdoor.refuses 18 0)) (sym (le-leb token_pool (length p) h)),
  ap (λ (x : text.Verdict). readdoor.verdict_leaves x p) (sym e) ∙ ap (λ (b : Bool). cond b (readdoor.verdict_leaves (text.reading t) p) p) (sym (le-leb token_pool (length p) h)),
)

pub reads_one : {t p : List ℕ} {s : readdoor.ReadSaid} {u : List ℕ} → Reads t p s u → (s ≡ readdoor.read_says t p) × (u ≡ readdoor.read_leaves t p)
unfolding readdoor.read_says readdoor.read_leaves readdoor.verdict_says readdoor.verdict_leaves
reads_one {t} {p} (table.Reads.no_room h) = (
  ap (λ (b : Bool). cond b (readdoor.verdict_says (text.reading t)) (readdoor.refuses 18 0)) (sym (lt-leb token_pool (length p) h)),
  ap (λ (b : Bool). cond b (readdoor.verdict_leaves (text.reading t) p) p) (sym (lt-leb token_pool (length p) h)),
)
reads_one {t} {p} (table.Reads.rejected {x = x} {place = k} h e) = read_so t p (text.rejected x k) h ((fault_exactly t x k).1 e)
reads_one {t} {p} (table.Reads.accepted {reached = k} {ts = ts} h e) = read_so t p (text.accepted k ts) h (derived_accepted t k ts e)

-- compiling
both_room : (p q : List ℕ) → node_pool ≤ length p → node_pool ≤ length q → true ≡ compiledoor.room p q
both_room p q h g = ap₂ (λ (x y : Bool). x && y) (sym (le-leb node_pool (length p) h)) (sym (le-leb node_pool (length q) g))

some_short : (p q : List ℕ) → (length p < node_pool) ⊎ (length q < node_pool) → false ≡ compiledoor.room p q
some_short p q (inl h) = ap (λ (x : Bool). x && leb node_pool (length q)) (sym (lt-leb node_pool (length p) h))
some_short p q (inr h) = sym (and-false (leb node_pool (length p))) ∙ ap (λ (x : Bool). leb node_pool (length p) && x) (sym (lt-leb node_pool (length q) h))

-- of two tests for room one fails
pub short_some : (a b c d : ℕ) → (leb a b && leb c d) ≡ false → (b < a) ⊎ (d < c)
short_some a b c d e = go (leb a b) (leb c d) refl refl e
  where
    go : (x y : Bool) → leb a b ≡ x → leb c d ≡ y → (x && y) ≡ false → (b < a) ⊎ (d < c)
    go false y h g e = inl (leb-false a b h)
    go true false h g e = inr (leb-false c d g)
    go true true h g e = cc

pub compiles : (t p q : List ℕ) → Compiles t p q (compiledoor.compile_says t p q) (compiledoor.forward_leaves t p q) (compiledoor.reverse_leaves t p q)
unfolding compiledoor.compile_says compiledoor.forward_leaves compiledoor.reverse_leaves compiledoor.verdict_says compiledoor.verdict_forward compiledoor.verdict_reverse compiledoor.compiled_says compiledoor.compiled_forward compiledoor.compiled_reverse
compiles t p q = go (compiledoor.room p q) refl (text.reading t) refl
  where
    made : (e : ℕ) (ts : _) → text.reading t ≡ text.accepted e ts → node_pool ≤ length p → node_pool ≤ length q → (c : tokens.Compiled) → tokens.compile ts ≡ c → Compiles t p q (compiledoor.compiled_says e c) (compiledoor.compiled_forward c p) (compiledoor.compiled_reverse c q)
    made e ts g h i (tokens.compiled f r) j = table.Compiles.compiled h i (accepted_derived t e ts g) ((makes ts (accepted_spelled t e ts g) (tokens.compiled f r)).0 j)
    made e ts g h i (tokens.refused x) j = table.Compiles.refused h i (accepted_derived t e ts g) ((makes ts (accepted_spelled t e ts g) (tokens.refused x)).0 j)

    go : (b : Bool) → compiledoor.room p q ≡ b → (o : text.Verdict) → text.reading t ≡ o → Compiles t p q (cond b (compiledoor.verdict_says o) (compiledoor.refuses 18 0)) (cond b (compiledoor.verdict_forward o p) p) (cond b (compiledoor.verdict_reverse o q) q)
    go true h (text.accepted e ts) g =
        let a = leb-true node_pool (length p) (and_left (leb node_pool (length p)) (leb node_pool (length q)) h) in
        let b = leb-true node_pool (length q) (and_right (leb node_pool (length p)) (leb node_pool (length q)) h) in
        made e ts g a b (tokens.compile ts) refl
    go true h (text.rejected x k) g =
        let a = leb-true node_pool (length p) (and_left (leb node_pool (length p)) (leb node_pool (length q)) h) in
        let b = leb-true node_pool (length q) (and_right (leb node_pool (length p)) (leb node_pool (length q)) h) in
        table.Compiles.rejected a b ((fault_exactly t x k).0 g)
    go false h o g = table.Compiles.no_room (short_some node_pool (length p) node_pool (length q) h)

abbrev As : List ℕ → List ℕ → List ℕ → compiledoor.CompileSaid → List ℕ → List ℕ → Type 0
As t p q s u v = (s ≡ compiledoor.compile_says t p q) × (u ≡ compiledoor.forward_leaves t p q) × (v ≡ compiledoor.reverse_leaves t p q)

-- by the test for room, and what was read
by_room : (t p q : List ℕ) (b : Bool) → b ≡ compiledoor.room p q → As t p q (cond b (compiledoor.verdict_says (text.reading t)) (compiledoor.refuses 18 0)) (cond b (compiledoor.verdict_forward (text.reading t) p) p) (cond b (compiledoor.verdict_reverse (text.reading t) q) q)
unfolding compiledoor.compile_says compiledoor.forward_leaves compiledoor.reverse_leaves
by_room t p q b e = (
  ap (λ (x : Bool). cond x (compiledoor.verdict_says (text.reading t)) (compiledoor.refuses 18 0)) e,
  ap (λ (x : Bool). cond x (compiledoor.verdict_forward (text.reading t) p) p) e,
  ap (λ (x : Bool). cond x (compiledoor.verdict_reverse (text.reading t) q) q) e,
)

by_verdict : (t p q : List ℕ) (o : text.Verdict) → node_pool ≤ length p → node_pool ≤ length q → text.reading t ≡ o → As t p q (compiledoor.verdict_says o) (compiledoor.verdict_forward o p) (compiledoor.verdict_reverse o q)
by_verdict t p q o h g e = subst (λ (x : text.Verdict). As t p q (compiledoor.verdict_says x) (compiledoor.verdict_forward x p) (compiledoor.verdict_reverse x q)) e (by_room t p q true (both_room p q h g))

by_tokens : (t p q : List ℕ) (k : ℕ) (ts : _) (c : tokens.Compiled) → node_pool ≤ length p → node_pool ≤ length q → text.reading t ≡ text.accepted k ts → tokens.compile ts ≡ c → As t p q (compiledoor.compiled_says k c) (compiledoor.compiled_forward c p) (compiledoor.compiled_reverse c q)
unfolding compiledoor.verdict_says compiledoor.verdict_forward compiledoor.verdict_reverse
by_tokens t p q k ts c h g e f = subst (λ (x : tokens.Compiled). As t p q (compiledoor.compiled_says k x) (compiledoor.compiled_forward x p) (compiledoor.compiled_reverse x q)) f (by_verdict t p q (text.accepted k ts) h g e)

made_so : (t p q : List ℕ) (k : ℕ) (ts : Tokens) (c : tokens.Compiled) → node_pool ≤ length p → node_pool ≤ length q → Derives t k ts → Makes ts c → As t p q (compiledoor.compiled_says k c) (compiledoor.compiled_forward c p) (compiledoor.compiled_reverse c q)
made_so t p q k ts c h g e f =
    let a = derived_accepted t k ts e in
    by_tokens t p q k ts c h g a ((makes ts (accepted_spelled t k ts a) c).1 f)

pub compiles_one : {t p q : List ℕ} {s : compiledoor.CompileSaid} {u v : List ℕ} → Compiles t p q s u v → (s ≡ compiledoor.compile_says t p q) × (u ≡ compiledoor.forward_leaves t p q) × (v ≡ compiledoor.reverse_leaves t p q)
unfolding compiledoor.verdict_says compiledoor.verdict_forward compiledoor.verdict_reverse compiledoor.compiled_says compiledoor.compiled_forward compiledoor.compiled_reverse
compiles_one {t} {p} {q} (table.Compiles.no_room h) = by_room t p q false (some_short p q h)
compiles_one {t} {p} {q} (table.Compiles.rejected {x = x} {place = k} h g e) = by_verdict t p q (text.rejected x k) h g ((fault_exactly t x k).1 e)
compiles_one {t} {p} {q} (table.Compiles.refused {x = x} {reached = k} {ts = ts} h g e f) = made_so t p q k ts (tokens.refused x) h g e f
compiles_one {t} {p} {q} (table.Compiles.compiled {reached = k} {ts = ts} {f = a} {r = b} h g e f) = made_so t p q k ts (tokens.compiled a b) h g e f

-- the mirror
pub mirrors : (ws p : List ℕ) → Mirrors ws p (mirrordoor.mirror_says ws p) (mirrordoor.mirror_leaves ws p)
unfolding mirrordoor.mirror_says mirrordoor.mirror_leaves
mirrors ws p = go (ltb (length p) node_pool) refl (ltb node_limit (length ws)) refl (sound ws) refl
  where
    go : (a : Bool) → ltb (length p) node_pool ≡ a → (b : Bool) → ltb node_limit (length ws) ≡ b → (c : Bool) → sound ws ≡ c
        → Mirrors ws p (cond a (mirrordoor.refuses 18 0) (cond b (mirrordoor.refuses 13 0) (cond c (mirrordoor.mirrored (length (mirror_words ws))) (mirrordoor.refuses 15 0)))) (cond a p (cond b (cleared node_pool p) (cond c (filled node_pool (mirror_words ws) p) (cleared node_pool p))))
    go true h b g c e = table.Mirrors.no_room (ltb-true (length p) node_pool h)
    go false h true g c e = table.Mirrors.too_many (ltb-false (length p) node_pool h) (ltb-true node_limit (length ws) g)
    go false h false g true e = table.Mirrors.mirrored (ltb-false (length p) node_pool h) (ltb-false node_limit (length ws) g) (sound_says ws e) (mirror_wording ws e)
    go false h false g false e =
        table.Mirrors.unsound (ltb-false (length p) node_pool h) (ltb-false node_limit (length ws) g)
        (λ s. let k = (sound_listed ws).1 s in cc)

abbrev Mirrored : List ℕ → List ℕ → mirrordoor.MirrorSaid → List ℕ → Type 0
Mirrored ws p s u = (s ≡ mirrordoor.mirror_says ws p) × (u ≡ mirrordoor.mirror_leaves ws p)

by_tests : (ws p : List ℕ) (a b c : Bool) → a ≡ ltb (length p) node_pool → b ≡ ltb node_limit (length ws) → c ≡ sound ws → Mirrored ws p (cond a (mirrordoor.refuses 18 0) (cond b (mirrordoor.refuses 13 0) (cond c (mirrordoor.mirrored (length (mirror_words ws))) (mirrordoor.refuses 15 0)))) (cond a p (cond b (cleared node_pool p) (cond c (filled node_pool (mirror_words ws) p) (cleared node_pool p))))
unfolding mirrordoor.mirror_says mirrordoor.mirror_leaves
by_tests ws p a b c h g e = (rw (h, g, e), rw (h, g, e))

pub mirrors_one : {ws p : List ℕ} {s : mirrordoor.MirrorSaid} {u : List ℕ} → Mirrors ws p s u → (s ≡ mirrordoor.mirror_says ws p) × (u ≡ mirrordoor.mirror_leaves ws p)
mirrors_one {ws} {p} (table.Mirrors.no_room h) = by_tests ws p true (ltb node_limit (length ws)) (sound ws) (sym (lt-ltb (length p) node_pool h)) refl refl
mirrors_one {ws} {p} (table.Mirrors.too_many h g) = by_tests ws p false true (sound ws) (sym (le-ltb (length p) node_pool h)) (sym (lt-ltb node_limit (length ws) g)) refl
mirrors_one {ws} {p} (table.Mirrors.unsound h g e) = by_tests ws p false false false (sym (le-ltb (length p) node_pool h)) (sym (le-ltb node_limit (length ws) g)) (not_sound ws e)
mirrors_one {ws} {p} (table.Mirrors.mirrored {vs = vs} {g = f} h g n m) =
    let k : sound ws ≡ true = (sound_listed ws).1 (record { few = g; program = f; nodes = n }) in
    let e : vs ≡ mirror_words ws = one_wording m (subst (λ (x : Prog). Nodes (mirror_words ws) (mirror x)) (program_listed n) (mirror_wording ws k)) in
    subst (λ (x : List ℕ). Mirrored ws p (mirrordoor.mirrored (length x)) (filled node_pool x p)) (sym e)
    (by_tests ws p false false true (sym (le-ltb (length p) node_pool h)) (sym (le-ltb node_limit (length ws) g)) (sym k))
