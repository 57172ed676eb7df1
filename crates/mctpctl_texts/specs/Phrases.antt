-- The words of a report's lines; where a line ends with them, its end is among them.
use Rattle.std.specs.Prelude.{codes}
use Rattle.mctpctl_texts.specs.declared.phrases.Phrases.{Phrases}

abbrev pub phrases : Phrases
phrases = record {
  nothing = codes "nothing\n";
  opened = codes "opened ";
  tag_in_use = codes "tag in use\n";
  id_in_use = codes "id in use\n";
  out_of_memory = codes "out of memory\n";
  nothing_due = codes "nothing due\n";
  drop = codes "drop ";
  partial = codes "partial\n";
  busy = codes "busy\n";
  copy = codes "copy\n";
  changed = codes "fresh changed\n";
  unchanged = codes "fresh unchanged\n";
  answered = codes "answered\n";
  set = codes "set\n";
  no_such_sensor = codes "no such sensor\n";
  out_of_size = codes "out of size\n";
  restarted = codes "restarted\n";
  end = codes "\n";
  request = codes "request ";
  from = codes "from ";
  still_open = codes "open\n";
  answered_by = codes "answered ";
  gave_up = codes "gave up\n";
  order = codes "order";
  no_order = codes "order -\n";
}
