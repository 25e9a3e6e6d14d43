use Rattle.json5_schema.proofs.Parts.{fits_result}
use Rattle.json5_schema.proofs.patterns.fits.Goals as goal

pub returns : goal.returns
returns c = fits_result c.matches.result c.args.source.now c.args.text.now c.utf8.source c.utf8.text c.matches.ensures
