-- What is asked by reference: a command, or the bytes of any request's data.
use Rattle.std.specs.Prelude.{◌≤◌, length}
use Rattle.pldm_wire.specs.Commands.{IsCommand}
use Rattle.pldm_wire.specs.declared.limits.TheConstants.{MAX_REQUEST_DATA}
use Rattle.pldm_requester.specs.Asks.{Ask, ask_for, ask_of}
use Rattle.pldm_requester.specs.declared.ask.AskRef.{AskRef}
use Rattle.pldm_requester.specs.declared.ask.AskRef.TheVariants.{Command, Data}

abbrev pub ask_in : AskRef → Ask
ask_in (Command command) = ask_of command.now
ask_in (Data kind rest) = ask_for kind rest.now

-- a message has room for it
abbrev pub HasRoom : AskRef → Type 0
HasRoom (Command command) = Unit {0}
HasRoom (Data kind rest) = length rest.now ≤ MAX_REQUEST_DATA

-- the fields of a command are in their ranges
abbrev pub IsReadable : AskRef → Type 0
IsReadable (Command command) = IsCommand command.now
IsReadable (Data kind rest) = Unit {0}
