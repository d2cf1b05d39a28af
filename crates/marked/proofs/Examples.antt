-- The worked examples of document 01, each by computing: a sentence of the document and the fact that it states. And three of the marked cases in files of the new kind (document 02, ticket 7).
use Rattle.std.specs.Prelude.{ℕ, ◌-◌, ◌*◌, ◌≡◌, refl, true, false, List, [], ◌∷◌, ◌++◌, leb, length, replicate}
use mathlib.Core.List.Memᴰ.{head as here}
use mathlib.Core.List.Memᴰ.{tail as there}
use Rattle.meaning.specs.Limits.{least_size, most_size}
use Rattle.meaning.specs.Sets.{listed, table}
use Rattle.meaning.specs.Task.{Operator, Task}
use Rattle.meaning.specs.Feature.{features}
use Rattle.meaning.specs.Slot.{SlotsOf}
use Rattle.meaning.specs.Weight.{Meets}
use Rattle.meaning.specs.Number.{Limit, Padded, Endless, got, fault, groups, number, group_bytes, number_bytes}
use Rattle.meaning.specs.File.{header, judged_task, bytes_of, counted, entry_bytes, operator_bytes, weight_bytes, list_bytes, task_bytes_as, task_bytes}
use Rattle.meaning.specs.Workspace.{words_of, packed, content_of}
use Rattle.meaning.specs.Answer.{done, refused, ends_alike, breaks, ChecksNew, Opens}
use Rattle.meaning.specs.Place.{nowhere}
use Rattle.meaning.specs.Line.{separating, Says, Prints, digits, word, words_in, line}
use Rattle.meaning.specs.Bay.{Bay, judged_bay, bay_task, Builds}
use Rattle.marked.specs.Decide.{tells-says, tells-checks, computing, bays, slots_in, slots?, slots-of}
use Rattle.marked.specs.Table.{finds, file_b, marked}
use Rattle.marked.proofs.Table.{marked-right}

-- To name one of these on an `unfolding` line opens what the bytes of a task, the words of a workspace, a bay are computed with.
writing : Unit {0}
unfolding task_bytes_as list_bytes counted bytes_of weight_bytes operator_bytes entry_bytes number_bytes group_bytes
writing = tt

opening : Unit {0}
unfolding computing words_of packed table
opening = tt

building : Unit {0}
unfolding bays writing
building = tt

-- ---- numbers

-- "80 01 is 128"
pub number-128 : number (128 ∷ 1 ∷ []) 0 ≡ got 128 2
unfolding computing
number-128 = refl

-- "FF 7F is 16,383"
pub number-16383 : number (255 ∷ 127 ∷ []) 0 ≡ got 16383 2
unfolding computing
number-16383 = refl

-- "80 00 .. refused": it has a shorter form.
pub number-padded : number (128 ∷ 0 ∷ []) 0 ≡ fault Padded 0
unfolding computing
number-padded = refl

-- "and 80 80 01 are refused" was so with two groups; "Numbers take up to three groups": it is 16,384.
pub number-refused-before : groups 2 0 (128 ∷ 128 ∷ 1 ∷ []) 0 ≡ fault Endless 0
unfolding computing
number-refused-before = refl

pub number-16384 : number (128 ∷ 128 ∷ 1 ∷ []) 0 ≡ got 16384 3
unfolding computing
number-16384 = refl

-- "to 2,097,151": FF FF 7F.
pub number-2097151 : number (255 ∷ 255 ∷ 127 ∷ []) 0 ≡ got 2097151 3
unfolding computing
number-2097151 = refl

-- "a third byte that says more follows is too long"
pub number-endless : number (128 ∷ 128 ∷ 128 ∷ 1 ∷ []) 0 ≡ fault Endless 0
unfolding computing
number-endless = refl

-- ---- limits

-- "Sizes 64 and 62 give 4,094"
pub features-64-62 : features (64 ∷ 62 ∷ []) ≡ 4094
unfolding computing
features-64-62 = refl

-- "and are taken"
pub taken-64-62 : header least_size most_size (2 ∷ 64 ∷ 62 ∷ []) 0 ≡ got (64 ∷ 62 ∷ []) 3
unfolding computing
taken-64-62 = refl

-- "64 and 63 give 4,159"
pub features-64-63 : features (64 ∷ 63 ∷ []) ≡ 4159
unfolding computing
features-64-63 = refl

-- "and are refused" was so with 4,096 features at most; "N may reach 32,768": they are taken.
pub taken-64-63 : (leb (features (64 ∷ 63 ∷ [])) 4096 ≡ false) × (header least_size most_size (2 ∷ 64 ∷ 63 ∷ []) 0 ≡ got (64 ∷ 63 ∷ []) 3)
unfolding computing
taken-64-63 = (refl, refl)

-- Five sizes of 64 give 41,280 and are refused: N breaks its limit, judged after the last size and placed there;
pub limit-five-64 : header least_size most_size (5 ∷ 64 ∷ 64 ∷ 64 ∷ 64 ∷ 64 ∷ []) 0 ≡ fault Limit 5
unfolding computing
limit-five-64 = refl

-- that is number 2.
pub refused-five-64 : Says (5 ∷ 64 ∷ 64 ∷ 64 ∷ 64 ∷ 64 ∷ []) (refused 2)
unfolding computing
refused-five-64 = refl

-- "64 variables of size 1 give 2,080"
pub features-ones : features (replicate 64 1) ≡ 2080
unfolding computing
features-ones = refl

-- ---- case B

-- An operator that flips both digits, where they are x and y.
abbrev flip : ℕ → ℕ → Operator
flip x y = record { variable = 0; before = x; after = 1 - x } ∷ record { variable = 1; before = y; after = 1 - y } ∷ []

-- "00 to 01, the four that flip both digits"
abbrev pub task_b : Task
task_b = record {
  sizes = 2 ∷ 2 ∷ [];
  start = 0 ∷ 0 ∷ [];
  goal = 0 ∷ 1 ∷ [];
  pairs = [];
  operators = flip 0 0 ∷ flip 0 1 ∷ flip 1 1 ∷ flip 1 0 ∷ [];
}

-- "Case B's 37 bytes" are judged as this task,
pub judged-B : judged_task file_b ≡ got task_b 37
unfolding computing
judged-B = refl

-- and are the bytes of this task.
pub bytes-B : task_bytes task_b ≡ file_b
unfolding writing
bytes-B = refl

-- "It prints `separated 2 0 2`.": the program's answer,
pub prints-B : Prints file_b (done (separating (0 ∷ 2 ∷ [])))
unfolding computing marked
prints-B = marked-right (finds file_b (done (separating (0 ∷ 2 ∷ [])))) (there (here refl))

-- and the bytes of its line.
pub line-B : line nowhere (done (separating (0 ∷ 2 ∷ [])))
    ≡ 115 ∷ 101 ∷ 112 ∷ 97 ∷ 114 ∷ 97 ∷ 116 ∷ 101 ∷ 100 ∷ 32 ∷ 50 ∷ 32 ∷ 48 ∷ 32 ∷ 50 ∷ 10 ∷ []
unfolding line words_in word digits
line-B = refl

-- B's slots 0 and 4; the others are empty.
abbrev pub rows_b : List (List ℕ)
rows_b = (0 ∷ 1 ∷ 2 ∷ 3 ∷ 5 ∷ 6 ∷ []) ∷ [] ∷ [] ∷ [] ∷ (4 ∷ 5 ∷ 6 ∷ 7 ∷ []) ∷ []

computed-B : slots? task_b rows_b ≡ true
unfolding computing
computed-B = refl

-- These are the slots of document 01 for B's operators.
pub slots-B : SlotsOf (features task_b.sizes) (Meets task_b.sizes (listed task_b.pairs) task_b.operators) (slots_in rows_b)
slots-B = slots-of task_b rows_b computed-B

-- "B's workspace is 2, 2,2, 0,0, 0,1, 0, then 111,0,0,0,240,0,0,0."
abbrev pub words_b : List ℕ
words_b = 2 ∷ 2 ∷ 2 ∷ 0 ∷ 0 ∷ 0 ∷ 1 ∷ 0 ∷ 111 ∷ 0 ∷ 0 ∷ 0 ∷ 240 ∷ 0 ∷ 0 ∷ 0 ∷ []

pub words-B : words_of (content_of task_b (slots_in rows_b)) ≡ words_b
unfolding opening
words-B = refl

-- An opening writes these words,
pub opens-B : Opens file_b (replicate 16 0) (record { answer = done 16; lent = words_b })
unfolding opening
opens-B = (slots_in rows_b, slots-B, refl)

-- and "further words are never touched".
pub opens-further-B : Opens file_b (replicate 16 0 ++ (8 ∷ 9 ∷ [])) (record { answer = done 16; lent = words_b ++ (8 ∷ 9 ∷ []) })
unfolding opening
opens-further-B = (slots_in rows_b, slots-B, refl)

-- ---- smaller files (document 02, ticket 7)

-- Case L as a new file: the mark in front, and the pairs 4 and 5 as 4 and no gap. It is judged as the old one.
abbrev new_l : List ℕ
new_l = 0 ∷ 2 ∷ 2 ∷ 2 ∷ 1 ∷ 0 ∷ 0 ∷ 0 ∷ 2 ∷ 4 ∷ 0 ∷ 1 ∷ 1 ∷ 0 ∷ 0 ∷ 1 ∷ []

pub says-new-L : Says new_l (done (separating (0 ∷ [])))
unfolding computing
says-new-L = (tells-says new_l (done (separating (0 ∷ [])))).yes refl

-- Cases J and K with new weights have the verdicts that they have with the old ones.
pub checks-new-J : ChecksNew file_b (0 ∷ 1 ∷ 0 ∷ []) (done ends_alike)
unfolding computing
checks-new-J = (tells-checks file_b (1 ∷ 0 ∷ []) (done ends_alike)).yes refl

pub checks-new-K : ChecksNew file_b (0 ∷ 1 ∷ 2 ∷ []) (done (breaks 0))
unfolding computing
checks-new-K = (tells-checks file_b (1 ∷ 2 ∷ []) (done (breaks 0))).yes refl

-- ---- bays

-- "The bay 1 by 2 from 0 1 to 1 0"
abbrev pub bay12 : Bay
bay12 = record { rows = 1; columns = 2; start = 0 ∷ 1 ∷ []; goal = 1 ∷ 0 ∷ [] }

pub judged-bay : judged_bay (1 ∷ 2 ∷ 0 ∷ 1 ∷ 1 ∷ 0 ∷ []) ≡ got bay12 6
unfolding building
judged-bay = refl

-- "gives 02 02 02 00 01 01 00 02 04 07 02 02 00 00 01 01 01 00 02 00 01 00 01 00 01."
abbrev pub bytes12 : List ℕ
bytes12 = 2 ∷ 2 ∷ 2 ∷ 0 ∷ 1 ∷ 1 ∷ 0 ∷ 2 ∷ 4 ∷ 7 ∷ 2 ∷ 2 ∷ 0 ∷ 0 ∷ 1 ∷ 1 ∷ 1 ∷ 0 ∷ 2 ∷ 0 ∷ 1 ∷ 0 ∷ 1 ∷ 0 ∷ 1 ∷ []

pub bytes-bay : task_bytes (bay_task bay12) ≡ bytes12
unfolding building
bytes-bay = refl

pub builds-bay : Builds (1 ∷ 2 ∷ 0 ∷ 1 ∷ 1 ∷ 0 ∷ []) (replicate 25 0) (record { answer = done 25; lent = bytes12 })
unfolding building
builds-bay = refl

-- A bay of three by three, by its start; the goal does not matter here.
abbrev bay33 : List ℕ → Bay
bay33 start = record { rows = 3; columns = 3; start = start; goal = start }

-- "Three by three has 192.": where all labels are different.
pub operators-3-3 : length (bay_task (bay33 (0 ∷ 1 ∷ 2 ∷ 3 ∷ 4 ∷ 5 ∷ 6 ∷ 7 ∷ 8 ∷ []))).operators ≡ 192
unfolding building
operators-3-3 = refl

-- With two lots of four: 24 places of the gap beside a pallet, for two labels; and pairs of the gap alone, one for each two of nine slots.
pub lots-3-3 : let T = bay_task (bay33 (0 ∷ 1 ∷ 1 ∷ 1 ∷ 1 ∷ 2 ∷ 2 ∷ 2 ∷ 2 ∷ [])) in (length T.operators ≡ 24 * 2) × (length T.pairs ≡ 36)
unfolding building
lots-3-3 = (refl, refl)
