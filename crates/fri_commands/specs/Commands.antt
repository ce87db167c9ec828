-- What each command prints, or the first fault of its arguments from the left.
use Rattle.std.specs.Prelude.{◌≡◌, ◌≢◌, ℕ, ⊤, ◌==◌, List, [], ◌∷◌, ◌++◌}
use Rattle.std.specs.Prelude.{length, map, replicate, Result, Ok, Err}
use Rattle.std.specs.Prelude.{Bool, true, false, not, ◌&&◌, nat_lt, if◌then◌else◌, codes}
use Rattle.std.specs.Prelude.{string_bytes, String}
use Rattle.std.specs.Global.{Global}
use Rattle.std.specs.Str.{bytes_eq}
use Rattle.p3_field.specs.BabyBear.{baby_bear, root}
use Rattle.p3_fri_core.specs.Schedule.{schedule}
use Rattle.p3_fri_core.specs.Folds.{folded_rounds}
use Rattle.fri_commands.specs.Texts.{parsed_number, parsed_list, line}
use Rattle.fri_commands.specs.Steps.{or_fault, unless, ◌>>=◌, exact_log2, elements}
use Rattle.fri_commands.specs.Steps.{canonical_number}
use Rattle.fri_commands.specs.Steps.{greatest_element, greatest_log_height}
use Rattle.fri_commands.specs.Prove.{prove_answer}
use Rattle.fri_commands.specs.declared.fault.Fault.{Fault}
use Rattle.fri_commands.specs.declared.fault.Fault.TheVariants.{Command, Number, Heights, Cap}
use Rattle.fri_commands.specs.declared.fault.Fault.TheVariants.{Length, BetaCount, HeightTooSmall}
use Rattle.fri_commands.specs.declared.fault.Fault.TheVariants.{HeightOverflow, PointInDomain}
use Rattle.fri_commands.specs.declared.fault.Refusal.{Refusal}
use Rattle.fri_commands.specs.declared.fault.Refusal.TheVariants.{Faulty, OutOfMemory}

-- the greatest height, final height and cap
abbrev pub greatest_height : ℕ
greatest_height = 63

-- whether each height is below the one before it
abbrev pub is_strictly_falling : List ℕ → Bool
is_strictly_falling [] = true
is_strictly_falling (height ∷ []) = true
is_strictly_falling (height ∷ next ∷ later) =
    nat_lt next height && is_strictly_falling (next ∷ later)

-- `schedule HEIGHTS FINAL CAP`
unfoldable pub schedule_answer : List ℕ → List ℕ → List ℕ → Result (List ℕ) Fault
schedule_answer heights_text final_text cap_text = do
  heights ← or_fault Number (parsed_list greatest_height heights_text)
  falling ← unless Heights (is_strictly_falling heights)
  final ← or_fault Number (parsed_number greatest_height final_text)
  cap ← or_fault Number (parsed_number greatest_height cap_text)
  positive ← unless Cap (not (cap == 0))
  Ok (line (schedule heights final cap))

-- the log arities of a round by two for each of the challenges
abbrev pub binary_rounds : {A : Type 0} → List A → List ℕ
binary_rounds betas = replicate (length betas) 1

-- the word folded round by round, as the canonical numbers of its elements
abbrev pub folded_numbers : ℕ → List ℕ → List ℕ → List ℕ → List ℕ
folded_numbers log_height log_arities betas word = map canonical_number
    (folded_rounds baby_bear root log_height log_arities (elements betas) (elements word))

-- `fold FINAL BETAS WORD`
unfoldable pub fold_answer : List ℕ → List ℕ → List ℕ → Result (List ℕ) Fault
fold_answer final_text betas_text word_text = do
  final ← or_fault Number (parsed_number greatest_height final_text)
  betas ← or_fault Number (parsed_list greatest_element betas_text)
  word ← or_fault Number (parsed_list greatest_element word_text)
  log_height ← or_fault Length (exact_log2 greatest_log_height (length word))
  one_each ← unless BetaCount (length betas == length (schedule (log_height ∷ []) final 1))
  Ok (line (schedule (log_height ∷ []) final 1)
      ++ line (folded_numbers log_height (schedule (log_height ∷ []) final 1) betas word))

-- what the program's arguments ask for
unfoldable pub answer : List (List ℕ) → Result (List ℕ) Fault
answer (command ∷ first ∷ second ∷ third ∷ []) =
    if bytes_eq command (codes "schedule") then schedule_answer first second third
    else (if bytes_eq command (codes "fold") then fold_answer first second third else Err Command)
answer (command ∷ log_blowup ∷ log_final ∷ point ∷ column ∷ []) =
    if bytes_eq command (codes "prove") then prove_answer log_blowup log_final point column
    else Err Command
answer arguments = Err Command

-- what arguments in strings ask for
abbrev pub answer_of : List (String Global) → Result (List ℕ) Fault
answer_of args = answer (map string_bytes args)

-- the line that names want of memory
abbrev pub out_of_memory_line : List ℕ
out_of_memory_line = codes "fri_run: out of memory\n"

-- the line that names a fault
abbrev pub fault_line : Fault → List ℕ
fault_line Command = codes "fri_run: bad command\n"
fault_line Number = codes "fri_run: bad number\n"
fault_line Heights = codes "fri_run: bad heights\n"
fault_line Cap = codes "fri_run: bad cap\n"
fault_line Length = codes "fri_run: bad length\n"
fault_line BetaCount = codes "fri_run: bad number of betas\n"
fault_line HeightTooSmall = codes "fri_run: refused: input height too small\n"
fault_line HeightOverflow = codes "fri_run: refused: final height overflow\n"
fault_line PointInDomain = codes "fri_run: refused: point in evaluation domain\n"

-- the status at a fault: 1 where good arguments are refused
abbrev pub fault_status : Fault → ℕ
fault_status HeightTooSmall = 1
fault_status HeightOverflow = 1
fault_status PointInDomain = 1
fault_status fault = 2

-- what a run writes to its output
abbrev pub standard_output : Result (List ℕ) Fault → List ℕ
standard_output (Ok text) = text
standard_output (Err fault) = []

-- what a run writes to its error stream
abbrev pub standard_error : Result (List ℕ) Fault → List ℕ
standard_error (Ok text) = []
standard_error (Err fault) = fault_line fault

-- the status with which a run ends
abbrev pub exit_status : Result (List ℕ) Fault → ℕ
exit_status (Ok text) = 0
exit_status (Err fault) = fault_status fault

-- by this status, memory wasn't wanting and no write failed
abbrev pub Completes : ℕ → Type 0
Completes status = (status ≢ 3) × (status ≢ 4)

-- the call gave this answer, or memory was wanting
abbrev pub Answers : Result (String Global) Refusal → Result (List ℕ) Fault → Type 0
Answers (Ok text) expected = expected ≡ Ok (string_bytes text)
Answers (Err (Faulty fault)) expected = expected ≡ Err fault
Answers (Err OutOfMemory) expected = ⊤
