-- The code's entry is the token that some words are taken for. Assumes nothing.
use Rattle.std.proofs.Common.{◌≡◌, ℕ, ◌≤◌, ◌%◌, true, false, [], ◌⊎◌, inl, inr, refl, arith}
use Rattle.std.proofs.Math.Option.{none}
use borrow.Author.Tests.{ne_eqb}
use Rattle.def_meaning.specs.Tokens as token
use Rattle.def_meaning.specs.Tokens.{Mask, left, right, all, MaskedByte, NotMaskedByte, Jump}
use Rattle.def_picking.specs.Literals.{taken, is_plain}
use Rattle.def_picking.specs.Runs.{plain_inside}
use Rattle.classes.specs.declared.Entry.{Entry}
use Rattle.classes.specs.declared.Entry.TheVariants.{Byte, NotByte, Low, High, Any, NotLow, NotHigh, NotAny, Other}
use Rattle.classes.specs.Classes.{passes}
use Rattle.classes.specs.Entry.{mask_in, entry_token, token_of}

module _ (k v m : ℕ) where
  pub is_byte : k ≡ 0 → token_of (Byte (v % 256)) ≡ entry_token k v m
  unfolding entry_token
  is_byte e = rw e

  pub is_not_byte : k ≡ 1 → token_of (NotByte (v % 256)) ≡ entry_token k v m
  unfolding entry_token
  is_not_byte e = rw e

  digit : v % 256 % 16 ≡ v % 16
  digit = omega arith

  masked : (h : Mask) → k ≡ 2 → mask_in m ≡ h → MaskedByte (v % 256 % 16) h ≡ entry_token k v m
  unfolding entry_token
  masked h e f = rw (digit, e, f)

  not_masked : (h : Mask) → k ≡ 3 → mask_in m ≡ h → NotMaskedByte (v % 256 % 16) h ≡ entry_token k v m
  unfolding entry_token
  not_masked h e f = rw (digit, e, f)

  mask_left : m ≡ 0 → mask_in m ≡ left
  unfolding mask_in
  mask_left e = rw e

  mask_right : m ≡ 1 → mask_in m ≡ right
  unfolding mask_in
  mask_right e = rw e

  mask_all : 2 ≤ m → mask_in m ≡ all
  unfolding mask_in
  mask_all h = simp (ne_eqb m 0 (λ e. omega arith), ne_eqb m 1 (λ e. omega arith))

  pub is_low : k ≡ 2 → m ≡ 0 → token_of (Low (v % 256)) ≡ entry_token k v m
  is_low e f = masked left e (mask_left f)

  pub is_high : k ≡ 2 → m ≡ 1 → token_of (High (v % 256)) ≡ entry_token k v m
  is_high e f = masked right e (mask_right f)

  pub is_any : k ≡ 2 → 2 ≤ m → token_of (Any (v % 256)) ≡ entry_token k v m
  is_any e h = masked all e (mask_all h)

  pub is_not_low : k ≡ 3 → m ≡ 0 → token_of (NotLow (v % 256)) ≡ entry_token k v m
  is_not_low e f = not_masked left e (mask_left f)

  pub is_not_high : k ≡ 3 → m ≡ 1 → token_of (NotHigh (v % 256)) ≡ entry_token k v m
  is_not_high e f = not_masked right e (mask_right f)

  pub is_not_any : k ≡ 3 → 2 ≤ m → token_of (NotAny (v % 256)) ≡ entry_token k v m
  is_not_any e h = not_masked all e (mask_all h)

  pub is_other : 4 ≤ k → token_of Other ≡ entry_token k v m
  unfolding entry_token
  is_other h = simp (ne_eqb k 0 (λ e. omega arith), ne_eqb k 1 (λ e. omega arith), ne_eqb k 2 (λ e. omega arith), ne_eqb k 3 (λ e. omega arith))

-- only an entry of a byte is taken for one
pub only_byte : (e : Entry) (v : ℕ) → token_of e ≡ token.Byte v → e ≡ Byte v
only_byte (Byte x) v h = cc
only_byte (NotByte x) v h = cc
only_byte (Low x) v h = cc
only_byte (High x) v h = cc
only_byte (Any x) v h = cc
only_byte (NotLow x) v h = cc
only_byte (NotHigh x) v h = cc
only_byte (NotAny x) v h = cc
only_byte Other v h = cc

-- an entry that is no byte and no class
abbrev pub Neither : Entry → Type 0
Neither e = ((x : ℕ) × (e ≡ Any x)) ⊎ ((x : ℕ) × (e ≡ NotAny x)) ⊎ (e ≡ Other)

pub neither_plain : (e : Entry) → Neither e → is_plain (token_of e) ≡ false
unfolding is_plain
neither_plain e (inl h) = rw h.1
neither_plain e (inr (inl h)) = rw h.1
neither_plain e (inr (inr h)) = rw h

pub neither_taken : (e : Entry) → Neither e → taken (token_of e) ≡ []
unfolding taken
neither_taken e (inl h) = rw h.1
neither_taken e (inr (inl h)) = rw h.1
neither_taken e (inr (inr h)) = rw h

pub no_class : (e : Entry) → ((x : ℕ) × (e ≡ Byte x)) ⊎ Neither e → (b : ℕ) → false ≡ passes (token_of e) b
unfolding passes
no_class e (inl h) b = rw h.1
no_class e (inr (inl h)) b = rw h.1
no_class e (inr (inr (inl h))) b = rw h.1
no_class e (inr (inr (inr h))) b = rw h

pub plain_but : (e : Entry) → (Neither e → ⊥) → is_plain (token_of e) ≡ true
unfolding is_plain
plain_but (Byte x) h = refl
plain_but (NotByte x) h = refl
plain_but (Low x) h = refl
plain_but (High x) h = refl
plain_but (Any x) h = absurd (h (inl (x, refl)))
plain_but (NotLow x) h = refl
plain_but (NotHigh x) h = refl
plain_but (NotAny x) h = absurd (h (inr (inl (x, refl))))
plain_but Other h = absurd (h (inr (inr refl)))

-- what holds of the tokens of one entry each holds of any entry's
pub one_cases : (P : token.Token → Type 0) → ((v : ℕ) → P (token.Byte v)) → ((v : ℕ) → P (token.NotByte v)) → ((v : ℕ) (m : Mask) → P (MaskedByte v m))
    → ((v : ℕ) (m : Mask) → P (NotMaskedByte v m)) → P (Jump 0 none) → (e : Entry) → P (token_of e)
one_cases P a b c d o (Byte x) = a x
one_cases P a b c d o (NotByte x) = b x
one_cases P a b c d o (Low x) = c (x % 16) left
one_cases P a b c d o (High x) = c (x % 16) right
one_cases P a b c d o (Any x) = c (x % 16) all
one_cases P a b c d o (NotLow x) = d (x % 16) left
one_cases P a b c d o (NotHigh x) = d (x % 16) right
one_cases P a b c d o (NotAny x) = d (x % 16) all
one_cases P a b c d o Other = o

-- an entry of its own has no lists
pub one_inside : (e : Entry) → plain_inside (token_of e) ≡ true
unfolding plain_inside
one_inside = one_cases (λ t. plain_inside t ≡ true) (λ v. refl) (λ v. refl) (λ v m. refl) (λ v m. refl) refl
