-- What the chooser asks of the words of an accepted text. Assumes nothing.
use Rattle.std.proofs.Common.{◌≡◌, sym, ap, ◌∙◌, subst, true, List, [], ◌∷◌, ℕ, ◌≤◌, length}
use Rattle.def_meaning.specs.Limits.{token_pool}
use Rattle.def_meaning.specs.Tokens.{Tokens}
use Rattle.def_meaning.specs.Entries.{entries}
use Rattle.def_reading.specs.Lists.{accepted, reading}
use Rattle.def_reading.proofs.SpelledValues.{accepted_spelled}
use Rattle.def_picking.specs.Runs.{plain_alternatives, segments}
use Rattle.def_picking.proofs.KeepLaws.{Every}
use Rattle.def_picking.proofs.ShortestLaws.{segments_told}
use Rattle.entries.specs.Words.{tokens_in}
use Rattle.runs.specs.Whole.{Whole}
use Rattle.runs.proofs.EntryLaws.{plain_entries, segments_entries}
use Rattle.chooser.specs.Kept.{Told, AllTold}
use Rattle.literaldoor.proofs.DoorLaws.{entries_whole}

every_told : (ss : List Tokens) → Every Told ss → AllTold ss
unfolding Every
every_told [] h = tt
every_told (s ∷ ss) h = (h.0, every_told ss h.1)

module _ (t : List ℕ) (e : ℕ) (ts : Tokens) (r : reading t ≡ accepted e ts) (ws : List ℕ) (w : ws ≡ entries ts) where
  plain_told : plain_alternatives ts ≡ true → AllTold (segments (tokens_in ws))
  plain_told p =
      subst AllTold (sym (ap (λ (x : List ℕ). segments (tokens_in x)) w ∙ segments_entries ts p (accepted_spelled t e ts r)))
      (every_told (segments ts) (segments_told ts p (accepted_spelled t e ts r)))

  pub entries_asked : length (entries ts) ≤ 4092 → (length ws ≤ token_pool) × Whole ws × (plain_alternatives (tokens_in ws) ≡ true → AllTold (segments (tokens_in ws)))
  entries_asked h =
      let (few, whole) = entries_whole ts ws w h in
      (few, whole, λ p. plain_told (sym (ap (λ (x : List ℕ). plain_alternatives (tokens_in x)) w ∙ plain_entries ts) ∙ p))
