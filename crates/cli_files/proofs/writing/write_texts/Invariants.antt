use Rattle.std.proofs.Common.{take}
use Rattle.std.specs.Io.KnownBytes.{Appends}
use Rattle.cli_files.specs.JoinedTexts.{joined_texts}
use Rattle.cli_files.proofs.writing.write_texts.Given as goal

abbrev pub invariant-loop-text : goal.invariant-loop-text
invariant-loop-text g l = Appends (g.W.Write.contents l.initial.writer) (g.W.Write.contents l.writer) (joined_texts (take l.text-index l.texts))
