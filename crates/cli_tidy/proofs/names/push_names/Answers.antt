use Rattle.std.proofs.Common.{sym, append-nil}
use Rattle.cli_files.specs.NameLists.{names_of}
use Rattle.cli_tidy.proofs.NamesPushed.{pushed_more, pushed_all}
use Rattle.cli_tidy.proofs.names.push_names.Goals as goal

pub loop-name-init : goal.loop-name-init
loop-name-init c = sym (append-nil (names_of c.args.names.now.items))

pub loop-name-preserved : goal.loop-name-preserved
loop-name-preserved c =
    pushed_more c.args.names.now.items c.args.more.now c.loop-name.name-index c.loop-name.names.items c.push_name.new.names.items c.name-item.result c.as_str.result.now c.loop-name-test.true c.name-item.is c.as_str.ensures.value c.loop-name.invariant c.in_ok-push_name.ensures

pub returns : goal.returns
returns c = pushed_all c.args.names.now.items c.args.more.now c.loop-name.name-index c.loop-name.names.items c.loop-name-test.false c.loop-name.invariant
