-- What compiling makes of tokens is what is listed, and nothing else. Assumes nothing.
use Rattle.std.proofs.Common.{◌≡◌, refl, ap, ap₂, ◌∙◌, subst, Bool, true, false, cond, ◌&&◌, ◌↔◌}
use Rattle.base.specs.declared.Refusal.TheVariants.{NotSimple, TooManyNodes, BranchTooLong}
use Rattle.def_meaning.specs.Tokens.{Tokens}
use Rattle.def_meaning.specs.Values.{Spelled}
use Rattle.def_compiling.specs.Compiling.{forward_program, reverse_program, forward_words, reverse_words}
use Rattle.def_compiling.specs.Compile.{simple, short, few, Compiled, compiled, refused, compile}
use Rattle.def_promise.specs.Outcomes.{Makes, not_simple, branch_too_long, too_many_nodes, programs}
use Rattle.def_promise.proofs.OneWording.{one_wording, forward_wording, reverse_wording}
use Rattle.def_promise.proofs.Cases.{refused_12, refused_14, refused_13, neither_refused}

module _ (ts : Tokens) (w : Spelled ts) where
  abbrev branches_short : Bool
  branches_short = short (forward_program ts) && short (reverse_program ts)

  abbrev nodes_few : Bool
  nodes_few = few (forward_program ts) && few (reverse_program ts)

  abbrev words : Compiled
  words = compiled (forward_words ts) (reverse_words ts)

  made : Makes ts (compile ts)
  unfolding compile
  made = go (simple ts) refl branches_short refl nodes_few refl
    where
      third : Bool → Compiled
      third c = cond c words (refused TooManyNodes)

      second : Bool → Bool → Compiled
      second b c = cond b (third c) (refused BranchTooLong)

      go : (a : Bool) → simple ts ≡ a → (b : Bool) → branches_short ≡ b → (c : Bool) → nodes_few ≡ c → Makes ts (cond a (second b c) (refused NotSimple))
      go false h b g c e = not_simple ((refused_12 ts).0 (ap (λ (x : Bool). cond x (second branches_short nodes_few) (refused NotSimple)) h))
      go true h false g c e =
          let (x, y) = (refused_14 ts).0 (ap₂ (λ (p q : Bool). cond p (second q nodes_few) (refused NotSimple)) h g) in
          branch_too_long x y
      go true h true g false e =
          let (x, y, z) = (refused_13 ts).0 (ap₂ (λ (p q : Bool). cond p (second q nodes_few) (refused NotSimple)) h g ∙ ap third e) in
          too_many_nodes x y z
      go true h true g true e =
          let j = ap₂ (λ (p q : Bool). cond p (second q nodes_few) (refused NotSimple)) h g ∙ ap third e in
          let (x, y, z, u, v) = (neither_refused ts (forward_words ts) (reverse_words ts)).0 j in
          programs x y z (forward_wording ts w (forward_words ts) (reverse_words ts) j) (reverse_wording ts w (forward_words ts) (reverse_words ts) j)

  made_one : {c : Compiled} → Makes ts c → compile ts ≡ c
  made_one (not_simple x) = (refused_12 ts).1 x
  made_one (branch_too_long x y) = (refused_14 ts).1 (x, y)
  made_one (too_many_nodes x y z) = (refused_13 ts).1 (x, y, z)
  made_one (programs x y z f r) =
      let j = (neither_refused ts (forward_words ts) (reverse_words ts)).1 (x, y, z, refl, refl) in
      j
      ∙ ap₂ compiled
      (one_wording (forward_wording ts w (forward_words ts) (reverse_words ts) j) f)
      (one_wording (reverse_wording ts w (forward_words ts) (reverse_words ts) j) r)

  pub makes : (c : Compiled) → (compile ts ≡ c) ↔ Makes ts c
  makes c = (λ h. subst (Makes ts) h made, λ m. made_one m)
