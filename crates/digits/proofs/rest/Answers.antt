-- Past the end nothing is left. Assumes nothing.
use Rattle.std.proofs.Common.{◌≡◌, ℕ, ◌+◌, ◌-◌, ◌≤◌, ◌<◌, ◌⊎◌, inl, inr, List, [], length, drop, Option, Some, None, MatchOption, unwrap_or, slice_range, Bor, refl, sym, ap, ◌∙◌, arith, length-drop, drop_of_length-le, take_all}
use Rattle.digits.proofs.rest.Goals as goal

left : (t : List ℕ) (at : ℕ) (o : Option (Bor (List ℕ))) (e : Bor (List ℕ)) → e.now ≡ []
    → MatchOption o ((length t < at) ⊎ (length t < length t)) (λ x. (at ≤ length t) × (length t ≤ length t) × (x.now ≡ slice_range t at (length t)) × (length x.now + at ≡ length t)) → (unwrap_or o e).now ≡ drop at t
left t at None e h (inl k) = h ∙ sym (drop_of_length-le t (omega arith))
left t at None e h (inr k) = absurd (omega arith)
left t at (Some x) e h k = k.2 ∙ take_all (length t - at) (drop at t) (omega (arith, length-drop at t))

pub returns : goal.returns
returns c = ap (λ (x : Bor (List ℕ)). x.now) c.unwrap_or.ensures ∙ left c.args.text.now c.args.at c.get.result _ refl c.get.ensures.lookup.0
