use Rattle.json5_settings_types.specs.Urls.{url_of}
use Rattle.json5_settings_types.proofs.ReadTypes.{spelling_back}
use Rattle.json5_settings_types.proofs.urls.urls_read_back.Goals as goal

pub returns : goal.returns
returns c = spelling_back url_of
