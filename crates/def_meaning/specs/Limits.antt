-- The limits of 01 and 02, by name. Assumes nothing: these are definitions.
-- To be believed: `text_limit` `token_limit` `level_limit` `number_limit` `inner_jump_limit` `jump_limit` `branch_limit` `node_limit` `literal_limit` `combination_limit` `token_pool` `node_pool`.
use Rattle.std.specs.Prelude.{ℕ, ◌/◌}

-- the bytes of a text, its tokens, the levels of its lists
abbrev pub text_limit : ℕ
text_limit = 4096

abbrev pub token_limit : ℕ
token_limit = 512

abbrev pub level_limit : ℕ
level_limit = 8

-- a number in a jump, and one in alternatives
abbrev pub number_limit : ℕ
number_limit = 4294967295

abbrev pub inner_jump_limit : ℕ
inner_jump_limit = 200

-- a jump that is compiled, the nodes of a branch and of a program
abbrev pub jump_limit : ℕ
jump_limit = 65535

abbrev pub branch_limit : ℕ
branch_limit = 255

abbrev pub node_limit : ℕ
node_limit = 512

-- the literals and the combinations of a slice
abbrev pub literal_limit : ℕ
literal_limit = 256

abbrev pub combination_limit : ℕ
combination_limit = 256

-- the words that are lent for tokens and for a program; the entries, of four words each, that the former hold
abbrev pub token_pool : ℕ
token_pool = 4096

abbrev pub node_pool : ℕ
node_pool = 512

abbrev pub entry_limit : ℕ
entry_limit = token_pool / 4
