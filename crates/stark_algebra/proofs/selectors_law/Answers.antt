use Rattle.stark_algebra.proofs.Selectors.{is_selector}
use Rattle.stark_algebra.proofs.selectors_law.Goals as goal

pub returns : goal.returns
returns g c F L top w W k b i = is_selector F L top w W k b i
