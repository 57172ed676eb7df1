-- What a reading gives it gives whatever the command says of events.
use Rattle.std.proofs.Common.{sym, ap, ◌∙◌}
use Rattle.fan_board.specs.BoardCommands.{answer_now, left_now}
use Rattle.fan_board.proofs.board.Board.try_command.Goals as goal

pub returns-in-GetSensorReading-clause-answer : goal.returns-in-GetSensorReading-clause-answer
returns-in-GetSensorReading-clause-answer c =
    c.read_sensor.ensures.answer c.in-GetSensorReading.rearm
    ∙ ap (answer_now c.args.self.now) (sym c.in-GetSensorReading.is)

pub returns-in-GetSensorReading-clause-after : goal.returns-in-GetSensorReading-clause-after
returns-in-GetSensorReading-clause-after c =
    c.read_sensor.ensures.after c.in-GetSensorReading.rearm
    ∙ ap (left_now c.args.self.now) (sym c.in-GetSensorReading.is)
