use Rattle.std.proofs.Common.{◌≡◌, ◌∙◌, true, false, sym, subst}
use Rattle.json5_write.specs.Pieces.{AppendsFront}
use Rattle.std.specs.Prelude.{Ok, Err}
use Rattle.cli_fmt.specs.Files.{none, WorksOn}
use Rattle.cli_files.specs.Reports.{report_line}
use Rattle.cli_fmt.proofs.FilesWorked.{more_good, more_bad, stops, ends}
use Rattle.cli_fmt.proofs.files.work_through.Goals as goal
use Rattle.cli_fmt.proofs.files.work_through.Goals.{in-Write, in_default-matches}

pub loop-name-init : goal.loop-name-init
loop-name-init g c = none

pub loop-name-preserved-in_default : goal.loop-name-preserved-in_default
loop-name-preserved-in_default g c =
    more_good (g.D.Disk.opens c.args.disk.now) c.args.work _ _ _ _ _ c.args.names.now c.loop-name.name-index c.loop-name.status c.name-item.result c.loop-name-test.true c.name-item.is
    c.loop-name.invariant (subst (λ t. WorksOn {A = Unit {0}} (g.D.Disk.opens c.args.disk.now t) c.args.work (g.W.Write.contents c.loop-name.w) (g.W.Write.contents c.work_on.new.w) (Ok tt)) c.as_str.ensures.value c.in_default.ensures)

pub returns-then-matches : goal.returns-then-matches
returns-then-matches g c =
    let failure = c.in-Err.failure in
    let line = subst (λ t. AppendsFront (g.E.Write.contents c.loop-name.e) (g.E.Write.contents c.report.new.e) (report_line t failure)) c.as_str-in-loop-name.ensures.value c.report.ensures.line in
    rw (c.max-status.ensures, c.report.ensures.status)
    (stops (g.D.Disk.opens c.args.disk.now) c.args.work _ _ _ _ _ _ c.args.names.now c.loop-name.name-index c.loop-name.status c.name-item.result failure c.loop-name-test.true c.name-item.is
    c.loop-name.invariant (subst (λ t. WorksOn {A = Unit {0}} (g.D.Disk.opens c.args.disk.now t) c.args.work (g.W.Write.contents c.loop-name.w) (g.W.Write.contents c.work_on.new.w) (Err failure)) c.as_str.ensures.value c.in-Err.ensures)
    (elim c.match-matches.branch [
      | in-Write w ↦ w.in-Write.is
      | in_default-matches w ↦ let e : true ≡ false = sym c.if-matches.true ∙ w.matches-is in absurd (cc)
    ]) line)

pub loop-name-preserved : goal.loop-name-preserved
loop-name-preserved g c =
    let failure = c.in-Err.failure in
    let line = subst (λ t. AppendsFront (g.E.Write.contents c.loop-name.e) (g.E.Write.contents c.report.new.e) (report_line t failure)) c.as_str-in-loop-name.ensures.value c.report.ensures.line in
    rw (c.max-status.ensures, c.report.ensures.status)
    (more_bad (g.D.Disk.opens c.args.disk.now) c.args.work _ _ _ _ _ _ c.args.names.now c.loop-name.name-index c.loop-name.status c.name-item.result failure c.loop-name-test.true c.name-item.is
    c.loop-name.invariant (subst (λ t. WorksOn {A = Unit {0}} (g.D.Disk.opens c.args.disk.now t) c.args.work (g.W.Write.contents c.loop-name.w) (g.W.Write.contents c.work_on.new.w) (Err failure)) c.as_str.ensures.value c.in-Err.ensures)
    (elim c.match-matches.branch [
      | in-Write w ↦ let e : false ≡ true = sym c.if-matches.false ∙ w.matches-is in absurd (cc)
      | in_default-matches w ↦ w.in_default-matches.not-Write
    ]) line)

pub returns : goal.returns
returns g c = ends (g.D.Disk.opens c.args.disk.now) c.args.work _ _ _ _ c.args.names.now c.loop-name.name-index c.loop-name.status c.loop-name-test.false c.loop-name.invariant
