-- The listed sound words are the tested ones, and the program that they say is the computed one. Assumes nothing.
use mathlib.Core.Path.{◌≡◌, refl, sym, ap, ap₂, ◌∙◌, subst, subst₂}
use mathlib.Core.Bool.{Bool, true, false}
use mathlib.Core.Logic.{◌↔◌}
use mathlib.Core.List.{List, [], ◌∷◌, ◌++◌, append-nil}
use Prim.Native.Nat.{ℕ, zero, suc, ◌≤◌, ◌<◌}
use native.Mathlib.Omega.{arith}
use native.Mathlib.Nat.{le_refl}
use lib.Dec.{leb}
use borrow.Author.Tests.{leb-true, le-leb}
use lib.ListN.{length, take, drop, length-append, length-drop, take-append-drop}
use lib.Seq.{take-append_seam, drop-append_seam, length-take-le, take_all}
use Rattle.def_meaning.specs.Limits.{branch_limit}
use Rattle.def_meaning.specs.Programs.{Item, Prog, Branches, one, jump, range, alt, end, ◌▹◌, stop, or}
use Rattle.def_meaning.specs.Words.{byte_size, Shape, item, opens, mark, wrong, shape, proper, is_flat, flat_prog, flat_words, sound_words, sound_branches, branches, prog, branches_of, sound, Sound, SoundBranches}
use Rattle.def_meaning.proofs.WordLaws.{drop_le, prog_nil, prog_item, prog_opens, branches_mark}
use Rattle.def_meaning.proofs.MadeLaws.{range_made, opens_made, mark_made}
use Rattle.def_meaning.proofs.SoundLaws.{Marked, and_left, and_right, and_both, false_true, sound_proper, branch_proper, sound_item, sound_opens, sound_mark, sound_wrong, sound_branch, branch_shape, make_item, make_opens, make_branch, make_flat, flat_item, flat_nil}
use Rattle.def_meaning.specs.NodeWords.{word, Flats, no_node, a_node, Branched, last, more, Nodes, nothing, flat, kind_4, kind_6, SoundWords}
use Rattle.def_meaning.proofs.ProperLaws.{OfItem, of_item, of_opens, of_mark, word_again, flat_of, flat_made, flat_is}

-- what listed words compute to
record Computes (ws : List ℕ) (p : Prog) : Type 0 where
  sounds : Sound ws
  says : prog ws ≡ p
  flatly : flat_prog p ≡ true → flat_words ws ≡ true

record ComputesIn (bs : List ℕ) (b : Branches) : Type 0 where
  sounds : SoundBranches bs
  says : branches_of bs ≡ b

nothing_computes : Computes [] end
unfolding sound_words
nothing_computes = record { sounds = refl; says = prog_nil; flatly = λ h. flat_nil }

node_computes : (w : ℕ) (ws : List ℕ) (i : Item) (p : Prog) → proper w ≡ true → shape w ≡ item i → Computes ws p → Computes (w ∷ ws) (i ▹ p)
unfolding flat_prog
node_computes w ws i p h e q = record {
  sounds = make_item w ws e h q.sounds;
  says = prog_item w ws i e ∙ ap (λ (r : Prog). i ▹ r) q.says;
  flatly = λ g. make_flat w ws e (and_left (is_flat i) (flat_prog p) g) h (q.flatly (and_right (is_flat i) (flat_prog p) g));
}

alternation_computes : (w : ℕ) (bs ws : List ℕ) (b : Branches) (p : Prog) → proper w ≡ true → shape w ≡ opens (length bs) → ComputesIn bs b → Computes ws p → Computes (w ∷ (bs ++ ws)) (alt b ▹ p)
unfolding flat_prog is_flat
alternation_computes w bs ws b p h e q r =
    let t = take-append_seam bs ws in
    let d = drop-append_seam bs ws in
    record {
      sounds = make_opens w (bs ++ ws) e h (record { fits = omega (arith, length-append bs ws); inside = subst SoundBranches (sym t) q.sounds; after = subst Sound (sym d) r.sounds });
      says = prog_opens w (bs ++ ws) (length bs) e ∙ ap₂ (λ (x y : List ℕ). alt (branches_of x) ▹ prog y) t d ∙ ap₂ (λ (x : Branches) (y : Prog). alt x ▹ y) q.says r.says;
      flatly = λ g. false_true g;
    }

branch_computes : (w : ℕ) (ns bs : List ℕ) (p : Prog) (b : Branches) → proper w ≡ true → shape w ≡ mark (length ns) → flat_prog p ≡ true → Computes ns p → ComputesIn bs b → ComputesIn (w ∷ (ns ++ bs)) (or p b)
branch_computes w ns bs p b h e g q r =
    let t = take-append_seam ns bs in
    let d = drop-append_seam ns bs in
    record {
      sounds = make_branch w (ns ++ bs) e h (record { fits = omega (arith, length-append ns bs); inside = ap flat_words t ∙ q.flatly g; after = subst SoundBranches (sym d) r.sounds });
      says = branches_mark w (ns ++ bs) (length ns) e ∙ ap₂ (λ (x y : List ℕ). or (prog x) (branches_of y)) t d ∙ ap₂ or q.says r.says;
    }

stop_computes : ComputesIn [] stop
unfolding sound_branches branches_of branches
stop_computes = record { sounds = refl; says = refl }

last_computes : (w : ℕ) (ns : List ℕ) (p : Prog) → proper w ≡ true → shape w ≡ mark (length ns) → flat_prog p ≡ true → Computes ns p → ComputesIn (w ∷ ns) (or p stop)
last_computes w ns p h e g q = subst (λ (l : List ℕ). ComputesIn (w ∷ l) (or p stop)) (append-nil ns) (branch_computes w ns [] p stop h e g q stop_computes)

flats_are : {ns : List ℕ} {p : Prog} → Flats ns p → flat_prog p ≡ true
unfolding flat_prog
flats_are no_node = refl
flats_are (a_node f q) = and_both (flat_is f) (flats_are q)

flats_compute : {ns : List ℕ} {p : Prog} → Flats ns p → Computes ns p
flats_compute no_node = nothing_computes
flats_compute (a_node {w = w} {ws = ws} {i = i} {p = p} f q) = let t = flat_made f in node_computes w ws i p t.properly t.says (flats_compute q)

branched_some : {bs : List ℕ} {b : Branches} → Branched bs b → 1 ≤ length bs
branched_some (last {ns = ns} s l q) = omega arith
branched_some (more {ns = ns} {bs = bs} s l q r) = omega arith

branched_computes : {bs : List ℕ} {b : Branches} → Branched bs b → ComputesIn bs b
branched_computes (last {ns = ns} {p = p} s l q) = let t = mark_made (length ns) s (omega arith) in last_computes (word 7 (length ns) 0) ns p t.properly t.says (flats_are q) (flats_compute q)
branched_computes (more {ns = ns} {bs = bs} {p = p} {b = b} s l q r) =
    let t = mark_made (length ns) s (omega arith) in
    branch_computes (word 7 (length ns) 0) ns bs p b t.properly t.says (flats_are q) (flats_compute q) (branched_computes r)

nodes_compute : {ws : List ℕ} {p : Prog} → Nodes ws p → Computes ws p
nodes_compute nothing = nothing_computes
nodes_compute (flat {w = w} {ws = ws} {i = i} {p = p} f q) = let t = flat_made f in node_computes w ws i p t.properly t.says (nodes_compute q)
nodes_compute (kind_4 {a = a} {b = b} {ws = ws} {p = p} h g q) = let t = range_made a b h g in node_computes (word 4 a b) ws (range a b) p t.properly t.says (nodes_compute q)
nodes_compute (kind_6 {bs = bs} {ws = ws} {b = b} {p = p} h u q) =
    let t = opens_made (length bs) (branched_some u) h in
    alternation_computes (word 6 (length bs) 0) bs ws b p t.properly t.says (branched_computes u) (nodes_compute q)

-- what is tested is listed, with the computed program: words of a branch
flats_listed : (ws : List ℕ) → flat_words ws ≡ true → Flats ws (prog ws)
flats_listed [] h = subst (Flats []) (sym prog_nil) no_node
flats_listed (w ∷ ws) h =
    let q = flat_item w ws h in
    subst (Flats (w ∷ ws)) (sym (prog_item w ws q.0 q.1)) (a_node (flat_of w q.0 q.4 q.1 q.2) (flats_listed ws q.3))

-- a branch and those after it
branch_listed : (w : ℕ) (ws : List ℕ) (k : ℕ) → shape w ≡ mark k → SoundBranches (w ∷ ws) → (1 ≤ length (drop k ws) → Branched (drop k ws) (branches_of (drop k ws))) → Branched (w ∷ ws) (branches_of (w ∷ ws))
branch_listed w ws k e h r = subst (Branched (w ∷ ws)) (sym (branches_mark w ws k e)) (go (drop k ws) refl r)
  where
    o : Marked k ws
    o = sound_branch w ws e h

    ns : List ℕ
    ns = take k ws

    m : shape w ≡ mark (length ns)
    m = e ∙ ap mark (sym (length-take-le k ws o.fits))

    v : word 7 (length ns) 0 ≡ w
    v = word_again w (branch_proper w ws h) m

    size : (1 ≤ length ns) × (length ns ≤ branch_limit)
    size = of_mark w (length ns) (branch_proper w ws h) m

    few : length ns < byte_size
    few = let b = size.1 in omega arith

    go : (l : List ℕ) → drop k ws ≡ l → (1 ≤ length l → Branched l (branches_of l)) → Branched (w ∷ ws) (or (prog ns) (branches_of l))
    go [] z f =
        let a : take k ws ≡ ws = take_all k ws (omega (arith, length-drop k ws, ap length z)) in
        subst₂ (λ (x : List ℕ) (b : Branches). Branched (w ∷ x) (or (prog ns) b)) a (sym stop_computes.says)
        (subst (λ (x : ℕ). Branched (x ∷ ns) (or (prog ns) stop)) v (last size.0 few (flats_listed ns o.inside)))
    go (x ∷ l) z f =
        let a : ns ++ (x ∷ l) ≡ ws = ap (λ (y : List ℕ). ns ++ y) (sym z) ∙ take-append-drop k ws in
        subst (λ (y : List ℕ). Branched (w ∷ y) (or (prog ns) (branches_of (x ∷ l)))) a
        (subst (λ (y : ℕ). Branched (y ∷ (ns ++ (x ∷ l))) (or (prog ns) (branches_of (x ∷ l)))) v (more size.0 few (flats_listed ns o.inside) (f (omega arith))))

branched_listed : (n : ℕ) (ws : List ℕ) → length ws ≤ n → SoundBranches ws → 1 ≤ length ws → Branched ws (branches_of ws)
branched_listed zero [] l h j = absurd (omega arith)
branched_listed zero (w ∷ ws) l h j = absurd (omega arith)
branched_listed (suc n) [] l h j = absurd (omega arith)
branched_listed (suc n) (w ∷ ws) l h j =
    let (k, e) = branch_shape w ws h in
    branch_listed w ws k e h (λ g. branched_listed n (drop k ws) (drop_le k n ws (omega arith)) (sound_branch w ws e h).after g)

-- an item of one word
node_listed : (w : ℕ) (ws : List ℕ) (i : Item) (p : Prog) → proper w ≡ true → shape w ≡ item i → Nodes ws p → Nodes (w ∷ ws) (i ▹ p)
unfolding is_flat OfItem
node_listed w ws (one t) p h e q = flat (flat_of w (one t) h e refl) q
node_listed w ws (jump n) p h e q = flat (flat_of w (jump n) h e refl) q
node_listed w ws (range a b) p h e q =
    subst (λ (x : ℕ). Nodes (x ∷ ws) (range a b ▹ p)) (word_again w h e) (let b = of_item w (range a b) h e in kind_4 b.0 b.1 q)
node_listed w ws (alt bs) p h e q = absurd (of_item w (alt bs) h e)

-- alternatives
alternation_listed : (w : ℕ) (ws : List ℕ) (k : ℕ) → shape w ≡ opens k → Sound (w ∷ ws) → Nodes (drop k ws) (prog (drop k ws)) → Nodes (w ∷ ws) (prog (w ∷ ws))
alternation_listed w ws k e h r =
    let o = sound_opens w ws e h in
    let bs = take k ws in
    let m : shape w ≡ opens (length bs) = e ∙ ap opens (sym (length-take-le k ws o.fits)) in
    let l = of_opens w (length bs) (sound_proper w ws h) m in
    let u : Branched bs (branches_of bs) = branched_listed (length bs) bs (le_refl _) o.inside l.0 in
    subst (Nodes (w ∷ ws)) (sym (prog_opens w ws k e))
    (subst (λ (x : List ℕ). Nodes (w ∷ x) (alt (branches_of bs) ▹ prog (drop k ws))) (take-append-drop k ws)
    (subst (λ (x : ℕ). Nodes (x ∷ (bs ++ drop k ws)) (alt (branches_of bs) ▹ prog (drop k ws))) (word_again w (sound_proper w ws h) m)
    (kind_6 l.1 u r)))

word_listed : (w : ℕ) (ws : List ℕ) → Sound (w ∷ ws) → (Sound ws → Nodes ws (prog ws)) → ((k : ℕ) → Sound (drop k ws) → Nodes (drop k ws) (prog (drop k ws))) → Nodes (w ∷ ws) (prog (w ∷ ws))
word_listed w ws h a b = go (shape w) refl
  where
    go : (s : Shape) → shape w ≡ s → Nodes (w ∷ ws) (prog (w ∷ ws))
    go (item i) e = subst (Nodes (w ∷ ws)) (sym (prog_item w ws i e)) (node_listed w ws i (prog ws) (sound_proper w ws h) e (a (sound_item w ws e h)))
    go (opens k) e = alternation_listed w ws k e h (b k (sound_opens w ws e h).after)
    go (mark k) e = absurd (sound_mark w ws e h)
    go wrong e = absurd (sound_wrong w ws e h)

nil_listed : Nodes [] (prog [])
nil_listed = subst (Nodes []) (sym prog_nil) nothing

nodes_listed : (n : ℕ) (ws : List ℕ) → length ws ≤ n → Sound ws → Nodes ws (prog ws)
nodes_listed zero [] l h = nil_listed
nodes_listed zero (w ∷ ws) l h = absurd (omega arith)
nodes_listed (suc n) [] l h = nil_listed
nodes_listed (suc n) (w ∷ ws) l h = word_listed w ws h (λ g. nodes_listed n ws (omega arith) g) (λ k g. nodes_listed n (drop k ws) (drop_le k n ws (omega arith)) g)

-- sound words are the listed ones, and the program that is computed from them is the one that they say
pub sound_says : (ws : List ℕ) → sound ws ≡ true → Nodes ws (prog ws)
unfolding sound
sound_says ws h = nodes_listed (length ws) ws (le_refl _) (and_right (leb (length ws) 512) (sound_words (length ws) ws) h)

pub listed_sound : {ws : List ℕ} {p : Prog} → Nodes ws p → Sound ws
listed_sound q = (nodes_compute q).sounds

pub program_listed : {ws : List ℕ} {p : Prog} → Nodes ws p → prog ws ≡ p
program_listed q = (nodes_compute q).says

pub sound_listed : (ws : List ℕ) → (sound ws ≡ true) ↔ SoundWords ws
unfolding sound
sound_listed ws = (
  λ h. record { few = leb-true (length ws) 512 (and_left (leb (length ws) 512) (sound_words (length ws) ws) h); program = prog ws; nodes = sound_says ws h },
  λ s. and_both (le-leb (length ws) 512 s.few) (nodes_compute s.nodes).sounds,
)

pub not_sound : (ws : List ℕ) → (SoundWords ws → ⊥) → false ≡ sound ws
not_sound ws h = go (sound ws) refl
  where
    go : (b : Bool) → sound ws ≡ b → false ≡ sound ws
    go true e = absurd (h ((sound_listed ws).0 e))
    go false e = sym e
