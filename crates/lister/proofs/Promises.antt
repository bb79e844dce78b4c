-- What listing promises: a single outcome, and that 86,016 bytes have room for the listing of every text. Assumes nothing.
use Rattle.std.proofs.Common.{Result, Ok, Err, ◌≡◌, refl, sym, ap, ◌∙◌, Bool, true, false, cond, ◌&&◌, List, ◌++◌, ℕ, ◌+◌, ◌^◌, ◌≤◌, ◌<◌, arith, leb, length, drop, leb-true, le-leb}
use mathlib.Core.List.{flatten}
use Rattle.lister.specs.Listings.{listing_limit, lent_bytes, lent_lengths}
use Rattle.base.specs.declared.Refusal.{Refusal}
use Rattle.base.specs.declared.Refusal.TheVariants.{TextTooLong, Unexpected, NumberTooBig, JumpEmpty, JumpRangeInvalid, JumpAtBound, JumpUnboundedInAlternation, JumpTooBigInAlternation, CannotNegateMaskAll, HexStringTooDeep, TooManyTokens, NotSimple, TooManyNodes, BranchTooLong, Unsound, BadWindow, TooManyLiterals, NoRoom, NotPlain}
use Rattle.base.specs.Refusals.{number_of}
use Rattle.def_meaning.specs.Limits.{text_limit, node_limit}
use Rattle.def_meaning.specs.Tokens.{Tokens}
use Rattle.def_meaning.proofs.SoundLaws.{and_left, and_right}
use Rattle.def_reading.specs.Lists.{Verdict, accepted, rejected, reading}
use Rattle.def_reading.proofs.Places.{rejected_place}
use Rattle.def_compiling.specs.ProgramWords.{nodes}
use Rattle.def_compiling.specs.Compiling.{forward_program, reverse_program, forward_words, reverse_words}
use Rattle.def_compiling.specs.Compile.{few, Compiled, compiled as programs, refused as uncompiled, compile}
use Rattle.def_compiling.proofs.GivenLaws.{programs_tests}
use Rattle.def_picking.specs.Candidates.{Picked, picked, unpicked, pick}
use Rattle.lines.specs.declared.NoRoom.{NoRoom as Short}
use Rattle.printing.specs.Laid.{laid}
use Rattle.lines.specs.Listed.{listed_of}
use Rattle.lines.specs.Lines.{got, not_got, listing}
use Rattle.printing.proofs.LaidLaws.{laid_fits}
use Rattle.lines.proofs.ListingLaws.{Small, listing_fits, refused_fits}
use Rattle.lister.specs.Listings.{with_room, with_programs, contents, listing_of}
use Rattle.lister.proofs.RankLaws.{picked_low}

-- ---- room

number_small : (r : Refusal) → number_of r < 10 ^ 10
number_small TextTooLong = omega arith
number_small Unexpected = omega arith
number_small NumberTooBig = omega arith
number_small JumpEmpty = omega arith
number_small JumpRangeInvalid = omega arith
number_small JumpAtBound = omega arith
number_small JumpUnboundedInAlternation = omega arith
number_small JumpTooBigInAlternation = omega arith
number_small CannotNegateMaskAll = omega arith
number_small HexStringTooDeep = omega arith
number_small TooManyTokens = omega arith
number_small NotSimple = omega arith
number_small TooManyNodes = omega arith
number_small BranchTooLong = omega arith
number_small Unsound = omega arith
number_small BadWindow = omega arith
number_small TooManyLiterals = omega arith
number_small NoRoom = omega arith
number_small NotPlain = omega arith

-- a longer text is refused at 0
place_small : (t : List ℕ) (r : Refusal) (place : ℕ) → reading t ≡ rejected r place → place ≤ text_limit
unfolding reading
place_small t r place e = go (leb (length t) text_limit) refl
  where
    go : (b : Bool) → leb (length t) text_limit ≡ b → place ≤ text_limit
    go true h = let k : length t ≤ text_limit = leb-true (length t) text_limit h in let l : place ≤ length t = rejected_place t r place e in omega arith
    go false h = let f : rejected TextTooLong 0 ≡ rejected r place = rw h at e in let z : 0 ≡ place = cc in omega arith

picked_small : (ts : Tokens) → Small (with_room (pick ts))
unfolding with_room
picked_small ts = go (pick ts) refl
  where
    fit : (n : ℕ) (ls : List (List ℕ)) (b : Bool) → n ≤ 80 → (leb (length ls) lent_lengths && leb (length (flatten ls)) lent_bytes) ≡ b → Small (cond b (got n ls) (not_got (number_of NoRoom)))
    fit n ls true h e = (
      omega arith,
      leb-true (length ls) lent_lengths (and_left (leb (length ls) lent_lengths) (leb (length (flatten ls)) lent_bytes) e),
      leb-true (length (flatten ls)) lent_bytes (and_right (leb (length ls) lent_lengths) (leb (length (flatten ls)) lent_bytes) e),
    )
    fit n ls false h e = number_small NoRoom

    go : (c : Picked) → pick ts ≡ c → Small (with_room c)
    go (picked n ls) e = fit n ls (leb (length ls) lent_lengths && leb (length (flatten ls)) lent_bytes) (picked_low ts n ls e) refl
    go (unpicked r) e = number_small r

programs_small : (ts : Tokens) (f r : List ℕ) → compile ts ≡ programs f r → (length f ≤ node_limit) × (length r ≤ node_limit)
unfolding few forward_words reverse_words
programs_small ts f r e =
    let q = programs_tests ts f r e in
    let x = leb-true (nodes (forward_program ts)) node_limit (and_left (few (forward_program ts)) (few (reverse_program ts)) q.2) in
    let y = leb-true (nodes (reverse_program ts)) node_limit (and_right (few (forward_program ts)) (few (reverse_program ts)) q.2) in
    let m : length (forward_words ts) ≡ length f = ap length q.3 in
    let n : length (reverse_words ts) ≡ length r = ap length q.4 in
    (omega arith, omega arith)

-- so the listing program, which lends as much, never wants room
pub listing_room : (t : List ℕ) → length (listing_of t) ≤ listing_limit
unfolding listing_of contents with_programs
listing_room t = go (reading t) refl
  where
    made : (ts : Tokens) (c : Compiled) → compile ts ≡ c → length (listing (with_programs c (with_room (pick ts)))) ≤ listing_limit
    made ts (programs f r) e = listing_fits f r (with_room (pick ts)) (programs_small ts f r e).0 (programs_small ts f r e).1 (picked_small ts)
    made ts (uncompiled r) e = refused_fits (number_of r) 0 (number_small r) (omega arith)

    go : (o : Verdict) → reading t ≡ o → length (listing (contents o)) ≤ listing_limit
    go (accepted end ts) e = made ts (compile ts) refl
    go (rejected r place) e = refused_fits (number_of r) place (number_small r) (let p : place ≤ text_limit = place_small t r place e in omega arith)

-- ---- the door

-- what the door states of a text, the lent bytes, its answer, and what it leaves
abbrev pub Lists : List ℕ → List ℕ → Result ℕ Short → List ℕ → Type 0
Lists t p r q = (r ≡ listed_of (length (listing_of t)) (length p)) × (q ≡ laid p 0 (listing_of t))

-- this leaves one answer and one content
pub list_single : (t p : List ℕ) (a b : Result ℕ Short) (u v : List ℕ) → Lists t p a u → Lists t p b v → (a ≡ b) × (u ≡ v)
list_single t p a b u v h k = (h.0 ∙ sym k.0, h.1 ∙ sym k.1)

-- and with 86,016 bytes lent, or more, the whole listing stands at their front
pub list_whole : (t p : List ℕ) (r : Result ℕ Short) (q : List ℕ) → listing_limit ≤ length p → Lists t p r q → (r ≡ Ok (length (listing_of t))) × (q ≡ listing_of t ++ drop (length (listing_of t)) p)
list_whole t p r q h (a, b) =
    let l : length (listing_of t) ≤ listing_limit = listing_room t in
    let k : length (listing_of t) ≤ length p = omega arith in
    (a ∙ ap (λ (x : Bool). cond x (Ok (length (listing_of t))) (Err (record { length = length (listing_of t) }))) (le-leb (length (listing_of t)) (length p) k), b ∙ laid_whole k)
  where
    laid_whole : length (listing_of t) ≤ length p → laid p 0 (listing_of t) ≡ listing_of t ++ drop (length (listing_of t)) p
    laid_whole k =
        let e : 0 + length (listing_of t) ≡ length (listing_of t) = omega arith in
        laid_fits (listing_of t) p 0 (omega arith) ∙ ap (λ (x : ℕ). listing_of t ++ drop x p) e
