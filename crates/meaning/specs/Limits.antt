-- Every limit of the documents, each under one name.
use Rattle.std.specs.Prelude.{ℕ, ◌*◌, ◌^◌}

-- "v 1 to 64"
abbrev pub least_variables : ℕ
least_variables = 1

abbrev pub most_variables : ℕ
most_variables = 64

-- "d 1 to 64"
abbrev pub least_size : ℕ
least_size = 1

abbrev pub most_size : ℕ
most_size = 64

-- A partial task file: "Its sizes, 1 to 63, are the old ones".
abbrev pub least_partial_size : ℕ
least_partial_size = 1

abbrev pub most_partial_size : ℕ
most_partial_size = 63

-- "N may reach 32,768"
abbrev pub most_features : ℕ
most_features = 32768

-- The atoms of the most variables, each of the most values.
abbrev pub most_atoms : ℕ
most_atoms = most_variables * most_size

-- "in groups of seven bits": how many values a group has, and the least byte that says that one group follows.
abbrev pub group : ℕ
group = 128

-- "Numbers take up to three groups"
abbrev pub most_groups : ℕ
most_groups = 3

-- The first number that these groups cannot hold: "to 2,097,151".
abbrev pub number_end : ℕ
number_end = group ^ most_groups

-- "A lent slice of 64-bit words."
abbrev pub word_bits : ℕ
word_bits = 64

-- "Rows and columns are each 1 to 9"
abbrev pub least_side : ℕ
least_side = 1

abbrev pub most_side : ℕ
most_side = 9

-- "rows times columns, n, is 2" to 16: "and n 16"
abbrev pub least_slots : ℕ
least_slots = 2

abbrev pub most_slots : ℕ
most_slots = 16

-- The finder program: "more than 8,192 bytes give 8 before anything is judged; more than 640 features give 8 after 7".
abbrev pub most_input : ℕ
most_input = 8192

abbrev pub most_program_features : ℕ
most_program_features = 640

-- The checker program: a task file or a weight file of more bytes gives 8. No accepted weight file has as many.
abbrev pub most_task : ℕ
most_task = 1048576

abbrev pub most_weights : ℕ
most_weights = 131072

-- pair_fault: room for a pair and an operator's number, a word each.
abbrev pub fault_words : ℕ
fault_words = 2

-- display: room for the beginning of a part and its length, a word each.
abbrev pub place_words : ℕ
place_words = 2
