use Rattle.std.proofs.lemmas.Result.{err_from_is_err_and}
use Rattle.std.specs.Prelude.{Err}
use Rattle.json5_write.specs.Out.{written_text}
use Rattle.json5_write.specs.ValueTrees.{value_tree}
use Rattle.json5_format.proofs.Formats.{pushes_whole}
use Rattle.cli_fmt.specs.Runs.{written_bytes}
use Rattle.cli_fmt.proofs.LinesWritten.{text_stops, line_feed_stops, flush_stops, text_written, line_written}
use Rattle.cli_fmt.proofs.streams.write_value.Goals as goal

pub returns-in_err-to_writer : goal.returns-in_err-to_writer
returns-in_err-to_writer g c =
    let (y, is, from) = err_from_is_err_and c.from_residual.result c.from_residual.ensures.1 in
    let holds = g.W.Write.contents in
    let t = value_tree c.args.value.now in
    rw is (λ w. text_stops (holds c.args.w.now) (holds c.to_writer.new.w) (written_bytes t) (pushes_whole {A = Unit {0}} (written_text t) (holds c.args.w.now) (holds c.to_writer.new.w) (Err c.in_err-to_writer.field-0.0) w (rw c.full.ensures at c.in_err-to_writer.ensures)))

pub returns-in_err-write_whole : goal.returns-in_err-write_whole
returns-in_err-write_whole g c =
    let (y, is, from) = err_from_is_err_and c.from_residual-in_err-write_whole.result c.from_residual-in_err-write_whole.ensures.1 in
    let holds = g.W.Write.contents in
    let wrote = rw c.full.ensures at c.in_ok-to_writer.ensures in
    rw is (λ w. line_feed_stops (holds c.args.w.now) (holds c.to_writer.new.w) (holds c.write_whole.new.writer) (written_bytes (value_tree c.args.value.now)) wrote.bytes c.in_err-write_whole.ensures)

pub returns-in_err-flush : goal.returns-in_err-flush
returns-in_err-flush g c =
    let (y, is, from) = err_from_is_err_and c.from_residual-in_err-flush.result c.from_residual-in_err-flush.ensures.1 in
    let holds = g.W.Write.contents in
    let wrote = rw c.full.ensures at c.in_ok-to_writer.ensures in
    rw is (λ w. flush_stops (holds c.args.w.now) (holds c.to_writer.new.w) (holds c.write_whole.new.writer) (holds c.flush.new.self) (written_bytes (value_tree c.args.value.now)) wrote.bytes c.in_ok-write_whole.ensures c.flush.ensures.bytes)

pub returns : goal.returns
returns g c =
    let holds = g.W.Write.contents in
    let t = value_tree c.args.value.now in
    let wrote = rw c.full.ensures at c.in_ok-to_writer.ensures in (
      text_written t wrote.stop wrote.chars,
      line_written (holds c.args.w.now) (holds c.to_writer.new.w) (holds c.write_whole.new.writer) (holds c.flush.new.self) (written_bytes t) wrote.bytes c.in_ok-write_whole.ensures c.flush.ensures.bytes,
    )
