-- A program has one wording: sound words that say the same program are the same words. So words that are computed (compiling's and the
-- mirror's) are known by the program that they say. Assumes nothing.
use Rattle.std.proofs.Common.{◌≡◌, refl, sym, ap, ap₂, ◌∙◌, subst, true, List, [], ◌∷◌, ◌++◌, append-nil, ℕ, length}
use Rattle.def_meaning.specs.Tokens.{Tokens}
use Rattle.def_meaning.specs.Values.{Spelled}
use Rattle.def_meaning.specs.Programs.{Item, Prog, Branches, mirror}
use Rattle.def_meaning.specs.Words.{prog, sound, mirror_words}
use Rattle.def_meaning.proofs.WordSpans.{sound_words_lem, mirrored_sound}
use Rattle.def_meaning.proofs.MirrorWords.{mirror_says_lem}
use Rattle.def_compiling.specs.ProgramWords.{opening, words_for, words_of, words_in}
use Rattle.def_compiling.specs.Compiling.{forward_program, reverse_program}
use Rattle.def_compiling.specs.Compile.{compiled, compile}
use Rattle.def_compiling.proofs.CompileLaws.{forward_says_lem, reverse_says_lem}
use Rattle.def_meaning.specs.NodeWords.{word, Flat, kind_0, kind_1, kind_2, kind_3, kind_5, Flats, no_node, a_node, Branched, last, more, Nodes, nothing, flat, kind_4, kind_6}
use Rattle.def_meaning.proofs.NodeWords.{sound_says}

-- words that say a program are those that it is written in
flat_word_lem : {w : ℕ} {i : Item} → Flat w i → words_for i ≡ w ∷ []
unfolding words_for
flat_word_lem (kind_0 h) = refl
flat_word_lem (kind_1 h g u) = refl
flat_word_lem (kind_2 h g u) = refl
flat_word_lem (kind_3 s h) = refl
flat_word_lem kind_5 = refl

flat_words_lem : {ns : List ℕ} {p : Prog} → Flats ns p → words_of p ≡ ns
unfolding words_of
flat_words_lem no_node = refl
flat_words_lem (a_node f q) = ap₂ (λ (x y : List ℕ). x ++ y) (flat_word_lem f) (flat_words_lem q)

branched_words : {bs : List ℕ} {b : Branches} → Branched bs b → words_in b ≡ bs
unfolding words_in
branched_words (last {ns = ns} s l q) = ap (λ (x : List ℕ). word 7 (length x) 0 ∷ (x ++ [])) (flat_words_lem q) ∙ ap (λ (x : List ℕ). word 7 (length ns) 0 ∷ x) (append-nil ns)
branched_words (more {ns = ns} {bs = bs} s l q r) = ap₂ (λ (x y : List ℕ). word 7 (length x) 0 ∷ (x ++ y)) (flat_words_lem q) (branched_words r)

node_words : {ws : List ℕ} {p : Prog} → Nodes ws p → words_of p ≡ ws
unfolding words_of words_for opening
node_words nothing = refl
node_words (flat f q) = ap₂ (λ (x y : List ℕ). x ++ y) (flat_word_lem f) (node_words q)
node_words (kind_4 {a = a} {b = b} h g q) = ap (λ (x : List ℕ). word 4 a b ∷ x) (node_words q)
node_words (kind_6 h u q) = ap₂ (λ (x y : List ℕ). word 6 (length x) 0 ∷ (x ++ y)) (branched_words u) (node_words q)

pub one_wording : {ws vs : List ℕ} {p : Prog} → Nodes ws p → Nodes vs p → ws ≡ vs
one_wording a b = sym (node_words a) ∙ node_words b

-- the mirror's words are those that say the mirror of the program
pub mirror_wording : (ws : List ℕ) → sound ws ≡ true → Nodes (mirror_words ws) (mirror (prog ws))
mirror_wording ws h = subst (Nodes (mirror_words ws)) (mirror_says_lem ws (sound_words_lem ws h)) (sound_says (mirror_words ws) (mirrored_sound ws h))

-- the words of a compiled pattern are those that say its two programs
module _ (ts : Tokens) (w : Spelled ts) (f r : List ℕ) (e : compile ts ≡ compiled f r) where
  pub forward_wording : Nodes f (forward_program ts)
  forward_wording = let (h, g) = forward_says_lem ts w f r e in subst (Nodes f) g (sound_says f h)

  pub reverse_wording : Nodes r (reverse_program ts)
  reverse_wording = let (h, g) = reverse_says_lem ts w f r e in subst (Nodes r) g (sound_says r h)
