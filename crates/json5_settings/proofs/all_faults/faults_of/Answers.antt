use Rattle.std.proofs.Common.{◌≡◌, true, rules}
use Rattle.std.specs.Fn.{FnReturnsAt}
use Rattle.std.specs.Prelude.{Err, string_bytes}
use Rattle.json5_settings.proofs.Failures.{goes_first, goes_more}
use Rattle.json5_settings.proofs.all_faults.faults_of.Goals as goal

pub loop-init : goal.loop-init
loop-init g c =
    let remains = c.in_ok-remains.remains in
    let reading = FnReturnsAt g.F.Fn c.args.read in
    let refused : FnReturnsAt g.F.Fn c.args.read c.args.text.now (Err c.in-Err.first) = search rules in
    let (same, none) = c.in_ok-remains.ensures in
    let (tells, out) = c.in_ok-goes_on.ensures in
    goes_first reading c.args.text.now (string_bytes remains.text) (string_bytes c.pass.new.self.text) c.in-Err.first remains.told.items c.pass.new.self.told.items c.in_ok-goes_on.goes_on same none refused tells out

pub loop-preserved : goal.loop-preserved
loop-preserved g c =
    let l = c.loop in
    let new = c.pass-in-Err-read.new.self in
    let reading = FnReturnsAt g.F.Fn c.args.read in
    let refused : FnReturnsAt g.F.Fn c.args.read (string_bytes l.remains.text) (Err c.in-Err-read.fault) = search rules in
    let on : l.goes_on ≡ true = search rules in
    let (tells, out) = c.in_ok-goes_on-in-Err-read.ensures in
    goes_more reading c.args.text.now (string_bytes l.remains.text) (string_bytes new.text) c.in-Err-read.fault l.remains.told.items new.told.items l.goes_on c.in_ok-goes_on-in-Err-read.goes_on on refused tells out l.invariant
