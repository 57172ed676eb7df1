-- What a command line asks for, by the definition of `clap`.
use Rattle.std.specs.Option.{option_map_or}
use Rattle.std.specs.Prelude.{◌≡◌, ◌≢◌, ◌==◌, ◌⊎◌, ℕ, Bool, true, false, if◌then◌else◌}
use Rattle.std.specs.Prelude.{List, [], ◌∷◌, length, codes, bytes_eq, Option, None, Some, option_and_then, option_map}
use Rattle.clap.specs.Lexer.{usize_max}
use Rattle.clap.specs.Words.{App, new_app, with_subcommand, fault_of, subcommand_of, IsAmong}
use Rattle.clap.specs.Words.{Row, Rule, all_of, first_of, new_rule, with_rule}
use Rattle.clap.specs.declared.builder.action.ArgAction.TheVariants.{Append, Set, SetTrue}
use Rattle.clap.specs.declared.builder.command.Command.{Command}
use Rattle.clap.specs.declared.builder.command.Command.TheViews.{out-Command}
use Rattle.clap.specs.declared.builder.range.ValueRange.{ValueRange}
use Rattle.clap.specs.declared.error.kind.ErrorKind.{ErrorKind}
use Rattle.clap.specs.declared.error.kind.ErrorKind.TheVariants.{DisplayHelp, DisplayVersion, OutOfMemory}
use Rattle.mctpctl_input.specs.declared.binding.Binding.{Binding}
use Rattle.mctpctl_input.specs.declared.binding.Binding.TheVariants.{I2c, I3c, Serial}
use Rattle.mctpctl_command_line.specs.declared.choice.Choice.{Choice}
use Rattle.mctpctl_command_line.specs.declared.choice.Choice.TheVariants as choice
use Rattle.mctpctl_command_line.specs.declared.choice.LineOptions.{LineOptions}
use Rattle.mctpctl_command_line.specs.declared.choice.AskOptions.{AskOptions}
use Rattle.mctpctl_command_line.specs.declared.choice.ServeOptions.{ServeOptions}
use Rattle.mctpctl_command_line.specs.declared.choice.WalkOptions.{WalkOptions}
use Rattle.mctpctl_command_line.specs.declared.choice.TextTask.{TextTask}
use Rattle.mctpctl_command_line.specs.declared.choice.Task.{Task}
use Rattle.mctpctl_command_line.specs.declared.choice.Task.TheVariants.{Answer, Run, Show}
use Rattle.mctpctl_command_line.specs.declared.choice.WatchOptions.{WatchOptions}
use Rattle.mctpctl_command_line.specs.declared.choice.UpdateOptions.{UpdateOptions}
use Rattle.mctpctl_command_line.specs.declared.choice.ChooseFault.{ChooseFault}
use Rattle.mctpctl_command_line.specs.declared.choice.ChooseFault.TheVariants.{Help, Refused, Memory}

-- `mctpctl` requires one of its subcommands, and has a version
abbrev pub program : App
program = record {
  top = record (new_app (codes "mctpctl")).top { subcommand_required = true; has_version = true };
  subs = [];
}

-- an argument of the command is one of its subcommands too
abbrev pub has_globals : Command → Bool
has_globals command = (out-Command command).has_globals

-- a flag of this name, as `--explain`
abbrev pub flag : List ℕ → Rule
flag name = record (new_rule name) { long = Some name; action = Some SetTrue }

-- an option of this name with a value, as `--log FILE`
abbrev pub value_option : List ℕ → Rule
value_option name = record (new_rule name) { long = Some name; action = Some Set; value_names = 1 }

-- a subcommand of this name, which may be asked to explain the faults of its input
abbrev pub text_subcommand : List ℕ → App
text_subcommand name = with_rule (new_app name) (flag (codes "explain"))

-- what serves a device requires the file of its description, and may log the line
abbrev pub serving_subcommand : App
serving_subcommand =
    with_rule (with_rule (with_rule (new_app (codes "serve"))
    (record (value_option (codes "device")) { required = true }))
    (value_option (codes "log"))) (flag (codes "verbose"))

-- and may be given the faults of the line, and be asked to explain the description
abbrev pub explained_subcommand : App
explained_subcommand = with_rule (with_rule serving_subcommand (value_option (codes "faults"))) (flag (codes "explain"))

-- `serve`, also with the file of the device's firmware, its update agent, and the line's lifetime
abbrev pub serve_subcommand : App
serve_subcommand =
    with_rule (with_rule (with_rule explained_subcommand (value_option (codes "firmware")))
    (value_option (codes "agent"))) (value_option (codes "lifetime"))

-- the subcommands that simulate a device over a text
abbrev pub device_command : App
device_command =
    with_subcommand (with_subcommand program (text_subcommand (codes "answer")).top) (text_subcommand (codes "run")).top

-- `show` may also be asked to decode messages, and be given which frames stand on the lines
abbrev pub show_subcommand : App
show_subcommand =
    with_rule (with_rule (text_subcommand (codes "show")) (flag (codes "decode"))) (value_option (codes "binding"))

abbrev pub text_command : App
text_command = with_subcommand device_command show_subcommand.top

abbrev pub line_command : App
line_command = with_subcommand text_command serve_subcommand.top

-- what asks a device requires both endpoint IDs, and may be given the line
abbrev pub line_subcommand : List ℕ → App
line_subcommand name =
    with_rule (with_rule (with_rule (new_app name) (value_option (codes "line")))
    (record (value_option (codes "own")) { required = true }))
    (record (value_option (codes "device")) { required = true })

-- and the times
abbrev pub timed_subcommand : List ℕ → App
timed_subcommand name =
    with_rule (with_rule (with_rule (line_subcommand name) (value_option (codes "keep")))
    (value_option (codes "timeout"))) (value_option (codes "tries"))

-- and the pace
abbrev pub paced_subcommand : List ℕ → App
paced_subcommand name =
    with_rule (with_rule (timed_subcommand name) (value_option (codes "lifetime"))) (value_option (codes "window"))

-- and the file of its state
abbrev pub stated_subcommand : List ℕ → App
stated_subcommand name =
    with_rule (with_rule (paced_subcommand name) (value_option (codes "state"))) (flag (codes "no-state"))

abbrev pub one_or_more : ValueRange
one_or_more = record { start_inclusive = 1; end_inclusive = usize_max }

-- the words that are left, at least one where there is one, are a command
abbrev pub command_words : Rule
command_words = record (new_rule (codes "command")) {
  action = Some Append;
  range = Some one_or_more;
  value_names = 1;
  trailing_var_arg = true;
}

abbrev pub ask_subcommand : App
ask_subcommand =
    with_rule (with_rule (with_rule (stated_subcommand (codes "ask")) (flag (codes "hex")))
    (value_option (codes "file"))) command_words

abbrev pub asking_command : App
asking_command = with_subcommand line_command ask_subcommand.top

-- `walk` may be given where the records go
abbrev pub walk_subcommand : App
walk_subcommand = with_rule (stated_subcommand (codes "walk")) (value_option (codes "records"))

abbrev pub walking_command : App
walking_command = with_subcommand asking_command walk_subcommand.top

-- `watch` may be given how long a period is, how many there are, and where the readings go
abbrev pub watch_subcommand : App
watch_subcommand =
    with_rule (with_rule (with_rule (stated_subcommand (codes "watch")) (value_option (codes "every")))
    (value_option (codes "count"))) (value_option (codes "log"))

abbrev pub watching_command : App
watching_command = with_subcommand walking_command watch_subcommand.top

-- `assign` gives the device its endpoint ID
abbrev pub assigning_command : App
assigning_command = with_subcommand watching_command (stated_subcommand (codes "assign")).top

-- the one word that is no option
abbrev pub updated_file : Rule
updated_file = record (new_rule (codes "image")) { action = Some Set; value_names = 1; required = true }

-- `update` may be given the component and the version, and be asked to transfer nothing
abbrev pub bringing_subcommand : App
bringing_subcommand =
    with_rule (with_rule (with_rule (stated_subcommand (codes "update")) (value_option (codes "component")))
    (value_option (codes "image-version"))) (flag (codes "dry-run"))

-- and requires the file
abbrev pub update_subcommand : App
update_subcommand = with_rule bringing_subcommand updated_file

abbrev pub command : App
command = with_subcommand assigning_command update_subcommand.top

-- whether `clap` takes the words, of which the first is the program's name
abbrev pub takes_line : List (List ℕ) → Bool
takes_line words = length (fault_of command words) == 0

abbrev pub task_named : List ℕ → Option Task
task_named name =
    if bytes_eq name (codes "answer") then Some Answer
    else if bytes_eq name (codes "run") then Some Run
    else if bytes_eq name (codes "show") then Some Show
    else None

abbrev pub binding_named : List ℕ → Option Binding
binding_named name =
    if bytes_eq name (codes "i2c") then Some I2c
    else if bytes_eq name (codes "i3c") then Some I3c
    else if bytes_eq name (codes "serial") then Some Serial
    else None

-- whether a flag was given, by what `clap` found of the subcommand's arguments
abbrev pub is_given : List ℕ → List Row → Bool
is_given name rows = option_map_or (λ text. bytes_eq text (codes "true")) (first_of name rows) false

-- a device that is served: the names of its files, whether drops are named, the faults of its line as they are spelled,
-- whether its description is explained, and its update agent and the line's lifetime as they are spelled
pub record Served : Type 0 where
  pub device : List ℕ
  pub log : Option (List ℕ)
  pub verbose : Bool
  pub faults : Option (List ℕ)
  pub explain : Bool
  pub firmware : Option (List ℕ)
  pub agent : Option (List ℕ)
  pub lifetime : Option (List ℕ)

-- who asks whom on which line, and when again: the words of the line, with the numbers as they are spelled
pub record Linked : Type 0 where
  pub line : Option (List ℕ)
  pub own : List ℕ
  pub device : List ℕ
  pub keep : Option (List ℕ)
  pub timeout : Option (List ℕ)
  pub tries : Option (List ℕ)
  pub lifetime : Option (List ℕ)
  pub window : Option (List ℕ)
  pub state : Option (List ℕ)
  pub no_state : Bool

-- what a device is asked
pub record Questioned : Type 0 where
  pub link : Linked
  pub hex : Bool
  pub file : Option (List ℕ)
  -- how many words at the end of the line are the command
  pub count : ℕ

-- a device that is asked for all that it has
pub record WalkAsked : Type 0 where
  pub link : Linked
  pub records : Option (List ℕ)

-- a device whose sensors and effecters are read again and again
pub record Watched : Type 0 where
  pub link : Linked
  pub every : Option (List ℕ)
  pub count : Option (List ℕ)
  pub readings : Option (List ℕ)

-- a device that is brought a firmware update
pub record Updated : Type 0 where
  pub link : Linked
  pub image : List ℕ
  pub component : Option (List ℕ)
  pub version : Option (List ℕ)
  pub dry_run : Bool

-- what a command line may ask for
pub data Asked : Type 0 where
  to_perform : TextTask → Asked
  to_serve : Served → Asked
  to_ask : Questioned → Asked
  to_walk : WalkAsked → Asked
  to_watch : Watched → Asked
  to_assign : Linked → Asked
  to_update : Updated → Asked

-- what a value of the code asks for
abbrev pub served : ServeOptions → Served
served service = record {
  device = service.device.now;
  log = option_map (λ file. file.now) service.log;
  verbose = service.verbose;
  faults = option_map (λ text. text.now) service.faults;
  explain = service.explain;
  firmware = option_map (λ file. file.now) service.firmware;
  agent = option_map (λ text. text.now) service.agent;
  lifetime = option_map (λ text. text.now) service.lifetime;
}

abbrev pub linked : LineOptions → Linked
linked l = record {
  line = option_map (λ text. text.now) l.line;
  own = l.own.now;
  device = l.device.now;
  keep = option_map (λ text. text.now) l.keep;
  timeout = option_map (λ text. text.now) l.timeout;
  tries = option_map (λ text. text.now) l.tries;
  lifetime = option_map (λ text. text.now) l.lifetime;
  window = option_map (λ text. text.now) l.window;
  state = option_map (λ text. text.now) l.state;
  no_state = l.no_state;
}

abbrev pub questioned : AskOptions → Questioned
questioned q = record {
  link = linked q.link;
  hex = q.hex;
  file = option_map (λ text. text.now) q.file;
  count = q.count;
}

abbrev pub walk_options : WalkOptions → WalkAsked
walk_options options = record { link = linked options.link; records = option_map (λ text. text.now) options.records }

abbrev pub watch_options : WatchOptions → Watched
watch_options options = record {
  link = linked options.link;
  every = option_map (λ text. text.now) options.every;
  count = option_map (λ text. text.now) options.count;
  readings = option_map (λ text. text.now) options.readings;
}

abbrev pub update_options : UpdateOptions → Updated
update_options options = record {
  link = linked options.link;
  image = options.image.now;
  component = option_map (λ text. text.now) options.component;
  version = option_map (λ text. text.now) options.version;
  dry_run = options.dry_run;
}

abbrev pub asked : Choice → Asked
asked (choice.Text task) = to_perform task
asked (choice.Serve service) = to_serve (served service)
asked (choice.Ask question) = to_ask (questioned question)
asked (choice.Walk options) = to_walk (walk_options options)
asked (choice.Watch options) = to_watch (watch_options options)
asked (choice.Assign link) = to_assign (linked link)
asked (choice.Update options) = to_update (update_options options)

-- what is asked for by what was found of the arguments of `serve`
abbrev pub service_in : List Row → Option Served
service_in rows =
    option_map
    (λ device. record {
      device = device;
      log = first_of (codes "log") rows;
      verbose = is_given (codes "verbose") rows;
      faults = first_of (codes "faults") rows;
      explain = is_given (codes "explain") rows;
      firmware = first_of (codes "firmware") rows;
      agent = first_of (codes "agent") rows;
      lifetime = first_of (codes "lifetime") rows;
    })
    (first_of (codes "device") rows)

-- how many values of an argument were given
abbrev pub values_given : List ℕ → List Row → ℕ
values_given name rows = option_map_or (λ values. length values) (all_of name rows) 0

-- who asks whom, by what was found of the arguments
abbrev pub link_in : List Row → Option Linked
link_in rows =
    option_and_then (λ own. option_map (λ device. record {
      line = first_of (codes "line") rows;
      own = own;
      device = device;
      keep = first_of (codes "keep") rows;
      timeout = first_of (codes "timeout") rows;
      tries = first_of (codes "tries") rows;
      lifetime = first_of (codes "lifetime") rows;
      window = first_of (codes "window") rows;
      state = first_of (codes "state") rows;
      no_state = is_given (codes "no-state") rows;
    }) (first_of (codes "device") rows)) (first_of (codes "own") rows)

-- what is asked for by what was found of the arguments of `ask`
abbrev pub question_in : List Row → Option Questioned
question_in rows =
    option_map (λ link. record {
      link = link;
      hex = is_given (codes "hex") rows;
      file = first_of (codes "file") rows;
      count = values_given (codes "command") rows;
    }) (link_in rows)

-- and of `walk`
abbrev pub walk_options_in : List Row → Option WalkAsked
walk_options_in rows =
    option_map (λ link. record { link = link; records = first_of (codes "records") rows }) (link_in rows)

-- and of `watch`
abbrev pub watch_options_in : List Row → Option Watched
watch_options_in rows =
    option_map (λ link. record {
      link = link;
      every = first_of (codes "every") rows;
      count = first_of (codes "count") rows;
      readings = first_of (codes "log") rows;
    }) (link_in rows)

-- and of `update`
abbrev pub update_options_in : List Row → Option Updated
update_options_in rows =
    option_and_then (λ link. option_map (λ image. record {
      link = link;
      image = image;
      component = first_of (codes "component") rows;
      version = first_of (codes "image-version") rows;
      dry_run = is_given (codes "dry-run") rows;
    }) (first_of (codes "image") rows)) (link_in rows)

-- the binding that is asked for, if one is: a name that is none's asks for nothing
abbrev pub binding_asked : Option (List ℕ) → Option (Option Binding)
binding_asked None = Some None
binding_asked (Some name) = option_map (λ binding. Some binding) (binding_named name)

abbrev pub binding_in : List Row → Option (Option Binding)
binding_in rows = binding_asked (first_of (codes "binding") rows)

abbrev pub text_task : List Row → Task → Option Binding → TextTask
text_task rows task binding = record {
  task = task;
  explain = is_given (codes "explain") rows;
  decode = is_given (codes "decode") rows;
  binding = binding;
}

-- what is asked for by the name of another subcommand and what was found of its arguments
abbrev pub text_task_in : List ℕ × List Row → Option TextTask
text_task_in found =
    option_and_then (λ task. option_map (text_task found.1 task) (binding_in found.1)) (task_named found.0)

-- what is asked for by a subcommand's name and what was found of its arguments
abbrev pub choice_in : List ℕ × List Row → Option Asked
choice_in found =
    if bytes_eq found.0 (codes "serve") then option_map to_serve (service_in found.1)
    else if bytes_eq found.0 (codes "ask") then option_map to_ask (question_in found.1)
    else if bytes_eq found.0 (codes "walk") then option_map to_walk (walk_options_in found.1)
    else if bytes_eq found.0 (codes "watch") then option_map to_watch (watch_options_in found.1)
    else if bytes_eq found.0 (codes "assign") then option_map to_assign (link_in found.1)
    else if bytes_eq found.0 (codes "update") then option_map to_update (update_options_in found.1)
    else option_map to_perform (text_task_in found)

-- what a line that is taken asks for
abbrev pub choice_of : List (List ℕ) → Option Asked
choice_of words = if takes_line words then option_and_then choice_in (subcommand_of command words) else None

-- what a refusal says of the line: that it names no task, and whether help or the version was asked for; a call may
-- run out of memory at any line
abbrev pub ReportsRefusal : List (List ℕ) → ChooseFault → Type 0
ReportsRefusal words (Help text) = (choice_of words ≡ None)
    × (IsAmong DisplayHelp (fault_of command words) ⊎ IsAmong DisplayVersion (fault_of command words))
ReportsRefusal words (Refused text) = (choice_of words ≡ None)
    × (fault_of command words ≢ DisplayHelp ∷ []) × (fault_of command words ≢ DisplayVersion ∷ [])
ReportsRefusal words (Memory refused) = Unit {0}

-- what a refusal says of the kind of `clap`'s error
abbrev pub ReportsKind : ErrorKind → ChooseFault → Type 0
ReportsKind kind (Help text) = (kind ≡ DisplayHelp) ⊎ (kind ≡ DisplayVersion)
ReportsKind kind (Refused text) = (kind ≢ DisplayHelp) × (kind ≢ DisplayVersion) × (kind ≢ OutOfMemory)
ReportsKind kind (Memory refused) = Unit {0}
