use Rattle.cli_check.proofs.NamesLed.{any_here, none_more, none_at_all}
use Rattle.cli_check.proofs.naming.mapped.Goals as goal

pub returns-in-Some : goal.returns-in-Some
returns-in-Some c = any_here c.args.schema.now c.args.maps.now c.loop-map.map-index c.map-item.result c.as_str.result.now c.in-Some.file.now c.loop-map-test.true c.map-item.is c.as_str.ensures.value c.in-Some.ensures

pub loop-map-preserved : goal.loop-map-preserved
loop-map-preserved c = none_more c.args.schema.now c.args.maps.now c.loop-map.map-index c.map-item.result c.as_str.result.now c.loop-map-test.true c.map-item.is c.as_str.ensures.value c.in_default.ensures c.loop-map.invariant

pub returns : goal.returns
returns c = none_at_all c.args.schema.now c.args.maps.now c.loop-map.map-index c.loop-map-test.false c.loop-map.invariant
