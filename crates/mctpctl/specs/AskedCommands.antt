-- The commands that the lines of a file say, or the last words of a command line.
use Rattle.std.specs.List.{flat_map}
use Rattle.std.specs.Prelude.{◌≡◌, ℕ, ◌+◌, ◌-◌, List, [], ◌∷◌, ◌++◌, drop, length, min, Option, Some, None, Result, Ok, Err}
use Rattle.line_words.specs.Lines.{said_words}
use Rattle.line_words.specs.TextLines.{lines_of}
use Rattle.pldm_wire.specs.declared.command.Command.{Command}
use Rattle.schedule_text.specs.CommandWords.{command_said}
use Rattle.schedule_text.specs.declared.line_fault.LineFault.{LineFault}
use Rattle.schedule_text.specs.declared.line_fault.LineFaultKind.{LineFaultKind}
use Rattle.mctpctl.specs.declared.commands.AskedCommand.{AskedCommand}
use Rattle.mctpctl.specs.declared.commands.CommandsFault.{CommandsFault}
use Rattle.mctpctl.specs.declared.commands.CommandsFault.TheVariants as faults

-- the commands before line n, and the one that it says; a blank line and a comment say none
abbrev pub with_said :
    ℕ → List AskedCommand → Result (Option Command) LineFaultKind → Result (List AskedCommand) LineFault
with_said n before (Ok (Some command)) = Ok (before ++ record { line = n; command = command } ∷ [])
with_said n before (Ok None) = Ok before
with_said n before (Err kind) = Err (record { line = n; kind = kind })

abbrev pub with_line : ℕ → List AskedCommand → List ℕ → Result (List AskedCommand) LineFault
with_line n before line = with_said n before (command_said (said_words line))

abbrev pub then :
    Result (List AskedCommand) LineFault → (List AskedCommand → Result (List AskedCommand) LineFault)
    → Result (List AskedCommand) LineFault
then (Ok commands) rest = rest commands
then (Err fault) rest = Err fault

-- line n and the lines after it
abbrev pub commands_from : ℕ → List AskedCommand → List (List ℕ) → Result (List AskedCommand) LineFault
commands_from n before [] = Ok before
commands_from n before (line ∷ lines) = then (with_line n before line) (λ commands. commands_from (n + 1) commands lines)

-- all commands of a text, whose lines are counted from 1, or the first line that is none
unfoldable pub commands_of : List ℕ → Result (List AskedCommand) LineFault
commands_of text = commands_from 1 [] (lines_of text)

-- a fault of these lines is the first one; memory may be wanting at any line
abbrev pub IsOfLines : Result (List AskedCommand) LineFault → CommandsFault → Type 0
IsOfLines read (faults.Line number kind) = read ≡ Err (record { line = number; kind = kind })
IsOfLines read faults.Memory = Unit {0}
IsOfLines read fault = ⊥

-- the last of these words, so many, or all where there are fewer
abbrev pub last_words : {A : Type 0} → ℕ → List A → List A
last_words count words = drop (length words - min count (length words)) words

-- a space follows each
abbrev pub spaced_words : List (List ℕ) → List ℕ
spaced_words words = flat_map (λ word. word ++ 32 ∷ []) words
