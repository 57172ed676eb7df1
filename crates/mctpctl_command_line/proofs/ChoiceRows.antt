-- What command lines that are written out ask for.
use Rattle.std.proofs.Common.{◌≡◌, ℕ, List, [], ◌∷◌, Bool, true, false, codes, Option, None, Some, refl}
use Rattle.clap.proofs.OnLiterals.{clap_on_literals}
use Rattle.clap.specs.Words.{fault_of}
use Rattle.clap.specs.declared.error.kind.ErrorKind.TheVariants.{ArgumentConflict, DisplayHelp, MissingRequiredArgument, MissingSubcommand}
use Rattle.mctpctl_input.specs.declared.binding.Binding.{Binding}
use Rattle.mctpctl_input.specs.declared.binding.Binding.TheVariants.{I2c, I3c, Serial}
use Rattle.mctpctl_command_line.specs.Choice.{command as the_command}
use Rattle.mctpctl_command_line.specs.Choice.{choice_of, Asked, Linked, Questioned, to_ask, to_assign, to_perform, to_serve, to_update, to_walk, to_watch}
use Rattle.mctpctl_command_line.specs.declared.choice.Task.{Task}
use Rattle.mctpctl_command_line.specs.declared.choice.Task.TheVariants.{Answer, Run, Show}

abbrev asks : Task → Bool → Bool → Asked
asks task explain decode =
    to_perform (record { task = task; explain = explain; decode = decode; binding = None })

abbrev shows : Bool → Binding → Asked
shows decode binding =
    to_perform (record { task = Show; explain = false; decode = decode; binding = Some binding })

abbrev serves : List ℕ → Option (List ℕ) → Bool → Option (List ℕ) → Asked
serves device log verbose faults = to_serve (record { device = device; log = log; verbose = verbose; faults = faults; explain = false; firmware = None; agent = None; lifetime = None })

answer : choice_of (codes "mctpctl" ∷ codes "answer" ∷ []) ≡ Some (asks Answer false false)
unfolding clap_on_literals
answer = refl

run : choice_of (codes "mctpctl" ∷ codes "run" ∷ []) ≡ Some (asks Run false false)
unfolding clap_on_literals
run = refl

show : choice_of (codes "mctpctl" ∷ codes "show" ∷ []) ≡ Some (asks Show false false)
unfolding clap_on_literals
show = refl

no_word : choice_of (codes "mctpctl" ∷ []) ≡ None
unfolding clap_on_literals
no_word = refl

other_word : choice_of (codes "mctpctl" ∷ codes "other" ∷ []) ≡ None
unfolding clap_on_literals
other_word = refl

too_many_words : choice_of (codes "mctpctl" ∷ codes "answer" ∷ codes "x" ∷ []) ≡ None
unfolding clap_on_literals
too_many_words = refl

missing : fault_of the_command (codes "mctpctl" ∷ []) ≡ MissingSubcommand ∷ []
unfolding clap_on_literals
missing = refl

help : fault_of the_command (codes "mctpctl" ∷ codes "--help" ∷ []) ≡ DisplayHelp ∷ []
unfolding clap_on_literals
help = refl

explained : choice_of (codes "mctpctl" ∷ codes "run" ∷ codes "--explain" ∷ []) ≡ Some (asks Run true false)
unfolding clap_on_literals
explained = refl

decoded : choice_of (codes "mctpctl" ∷ codes "show" ∷ codes "--decode" ∷ []) ≡ Some (asks Show false true)
unfolding clap_on_literals
decoded = refl

both_flags : choice_of (codes "mctpctl" ∷ codes "show" ∷ codes "--decode" ∷ codes "--explain" ∷ []) ≡ Some (asks Show true true)
unfolding clap_on_literals
both_flags = refl

-- only `show` decodes
not_decoded : choice_of (codes "mctpctl" ∷ codes "answer" ∷ codes "--decode" ∷ []) ≡ None
unfolding clap_on_literals
not_decoded = refl

on_i2c : choice_of (codes "mctpctl" ∷ codes "show" ∷ codes "--binding" ∷ codes "i2c" ∷ []) ≡ Some (shows false I2c)
unfolding clap_on_literals
on_i2c = refl

on_i3c_decoded : choice_of (codes "mctpctl" ∷ codes "show" ∷ codes "--decode" ∷ codes "--binding=i3c" ∷ []) ≡ Some (shows true I3c)
unfolding clap_on_literals
on_i3c_decoded = refl

on_serial : choice_of (codes "mctpctl" ∷ codes "show" ∷ codes "--binding=serial" ∷ []) ≡ Some (shows false Serial)
unfolding clap_on_literals
on_serial = refl

on_no_such_bus : choice_of (codes "mctpctl" ∷ codes "show" ∷ codes "--binding=spi" ∷ []) ≡ None
unfolding clap_on_literals
on_no_such_bus = refl

-- only `show` reads frames
not_framed : choice_of (codes "mctpctl" ∷ codes "answer" ∷ codes "--binding=i2c" ∷ []) ≡ None
unfolding clap_on_literals
not_framed = refl

serve : choice_of (codes "mctpctl" ∷ codes "serve" ∷ codes "--device" ∷ codes "fan.toml" ∷ [])
    ≡ Some (serves (codes "fan.toml") None false None)
unfolding clap_on_literals
serve = refl

served_with_all :
    choice_of
    (codes "mctpctl" ∷ codes "serve" ∷ codes "--verbose" ∷ codes "--log=line" ∷ codes "--device=fan.toml"
    ∷ codes "--faults=7,10,10,50" ∷ [])
    ≡ Some (serves (codes "fan.toml") (Some (codes "line")) true (Some (codes "7,10,10,50")))
unfolding clap_on_literals
served_with_all = refl

no_device : choice_of (codes "mctpctl" ∷ codes "serve" ∷ []) ≡ None
unfolding clap_on_literals
no_device = refl

missing_device : fault_of the_command (codes "mctpctl" ∷ codes "serve" ∷ []) ≡ MissingRequiredArgument ∷ []
unfolding clap_on_literals
missing_device = refl

two_devices :
    fault_of the_command
    (codes "mctpctl" ∷ codes "serve" ∷ codes "--device" ∷ codes "a" ∷ codes "--device" ∷ codes "b" ∷ [])
    ≡ ArgumentConflict ∷ []
unfolding clap_on_literals
two_devices = refl

-- a description that is served is explained
described : choice_of (codes "mctpctl" ∷ codes "serve" ∷ codes "--device" ∷ codes "a" ∷ codes "--explain" ∷ [])
    ≡ Some (to_serve (record { device = codes "a"; log = None; verbose = false; faults = None; explain = true; firmware = None; agent = None; lifetime = None }))
unfolding clap_on_literals
described = refl

-- endpoint 8 asks endpoint 9 by so many words at the end of the line
abbrev from_8_to_9 : Linked
from_8_to_9 = record {
  line = None;
  own = codes "8";
  device = codes "9";
  keep = None;
  timeout = None;
  tries = None;
  lifetime = None;
  window = None;
  state = None;
  no_state = false;
}

abbrev by_words : ℕ → Questioned
by_words count = record { link = from_8_to_9; hex = false; file = None; count = count }

ask :
    choice_of
    (codes "mctpctl" ∷ codes "ask" ∷ codes "--own" ∷ codes "8" ∷ codes "--device" ∷ codes "9" ∷ codes "sensor" ∷ codes "1" ∷ [])
    ≡ Some (to_ask (by_words 2))
unfolding clap_on_literals
ask = refl

-- a word of the command may begin as an option does
asked_with_all :
    choice_of
    (codes "mctpctl" ∷ codes "ask" ∷ codes "--line=tty" ∷ codes "--own=8" ∷ codes "--device=9" ∷ codes "--keep=1000"
    ∷ codes "--timeout=300" ∷ codes "--tries=3" ∷ codes "--state=last" ∷ codes "--hex" ∷ codes "setnum" ∷ codes "1" ∷ codes "sint8" ∷ codes "-5"
    ∷ [])
    ≡ Some (to_ask (record (by_words 4) {
      link = record from_8_to_9 {
        line = Some (codes "tty");
        keep = Some (codes "1000");
        timeout = Some (codes "300");
        tries = Some (codes "3");
        state = Some (codes "last");
        no_state = false;
      };
      hex = true;
    }))
unfolding clap_on_literals
asked_with_all = refl

asked_by_a_file :
    choice_of (codes "mctpctl" ∷ codes "ask" ∷ codes "--own=8" ∷ codes "--device=9" ∷ codes "--file" ∷ codes "lines" ∷ [])
    ≡ Some (to_ask (record (by_words 0) { file = Some (codes "lines") }))
unfolding clap_on_literals
asked_by_a_file = refl

-- the options come before the command
device_after_the_command :
    choice_of
    (codes "mctpctl" ∷ codes "ask" ∷ codes "--own=8" ∷ codes "gettid" ∷ codes "--device=9" ∷ []) ≡ None
unfolding clap_on_literals
device_after_the_command = refl

walk : choice_of (codes "mctpctl" ∷ codes "walk" ∷ codes "--own=8" ∷ codes "--device=9" ∷ []) ≡ Some (to_walk (record { link = from_8_to_9; records = None }))
unfolding clap_on_literals
walk = refl

walk_with_all :
    choice_of
    (codes "mctpctl" ∷ codes "walk" ∷ codes "--line=tty" ∷ codes "--own=8" ∷ codes "--device=9" ∷ codes "--records" ∷ codes "pdr" ∷ [])
    ≡ Some (to_walk (record { link = record from_8_to_9 { line = Some (codes "tty") }; records = Some (codes "pdr") }))
unfolding clap_on_literals
walk_with_all = refl

walk_at_a_pace :
    choice_of
    (codes "mctpctl" ∷ codes "walk" ∷ codes "--own=8" ∷ codes "--device=9" ∷ codes "--lifetime=100"
    ∷ codes "--window" ∷ codes "8" ∷ [])
    ≡ Some (to_walk (record {
      link = record from_8_to_9 { lifetime = Some (codes "100"); window = Some (codes "8") };
      records = None;
    }))
unfolding clap_on_literals
walk_at_a_pace = refl

-- a walk takes no command
walk_with_a_word : choice_of (codes "mctpctl" ∷ codes "walk" ∷ codes "--own=8" ∷ codes "--device=9" ∷ codes "gettid" ∷ []) ≡ None
unfolding clap_on_literals
walk_with_a_word = refl

watch_with_all :
    choice_of
    (codes "mctpctl" ∷ codes "watch" ∷ codes "--own=8" ∷ codes "--device=9" ∷ codes "--every=500" ∷ codes "--count=3" ∷ codes "--log=csv" ∷ [])
    ≡ Some (to_watch (record { link = from_8_to_9; every = Some (codes "500"); count = Some (codes "3"); readings = Some (codes "csv") }))
unfolding clap_on_literals
watch_with_all = refl

assign : choice_of (codes "mctpctl" ∷ codes "assign" ∷ codes "--own=8" ∷ codes "--device=9" ∷ []) ≡ Some (to_assign from_8_to_9)
unfolding clap_on_literals
assign = refl

-- what is brought to endpoint 9, with nothing else said
updated :
    choice_of
    (codes "mctpctl" ∷ codes "update" ∷ codes "--own" ∷ codes "8" ∷ codes "--device" ∷ codes "9" ∷ codes "fan.bin" ∷ [])
    ≡ Some (to_update (record {
      link = from_8_to_9;
      image = codes "fan.bin";
      component = None;
      version = None;
      dry_run = false;
    }))
unfolding clap_on_literals
updated = refl

-- what is brought has to be named
nothing_to_bring :
    choice_of (codes "mctpctl" ∷ codes "update" ∷ codes "--own" ∷ codes "8" ∷ codes "--device" ∷ codes "9" ∷ []) ≡ None
unfolding clap_on_literals
nothing_to_bring = refl
