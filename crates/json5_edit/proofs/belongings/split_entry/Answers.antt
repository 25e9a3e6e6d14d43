use Rattle.json5_edit.proofs.Measured.{whole_entry}
use Rattle.json5_edit.proofs.PiecesJoined.{ok_both}
use Rattle.json5_edit.proofs.TakenApart.{entry_there}
use Rattle.json5_edit.proofs.belongings.split_entry.Goals as goal

pub returns : goal.returns
returns c = ok_both c.split.result (λ parts a k. record { split = a; entry = λ solid. entry_there c.args.text.now parts.0.now _ c.utf8.text (whole_entry (c.in_ok-len.ensures.measured solid)) k }) c.split.ensures.split c.split.ensures.front
