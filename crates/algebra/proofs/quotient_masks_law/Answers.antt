use Rattle.algebra.proofs.LiftedMasks.{masks_cancel_above}
use Rattle.algebra.proofs.quotient_masks_law.Goals as goal

pub returns : goal.returns
returns g c F L K M lift H m k s q t z apart off lq lt e =
    masks_cancel_above F K lift L M H m k s q t z apart off lq lt e
