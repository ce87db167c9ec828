use Rattle.p3_fri_masks.proofs.KeptRows.{masks_between, zeros_between}
use Rattle.p3_fri_masks.proofs.laws.rows_by_index_law.Goals as goal

pub returns-clause-masked : goal.returns-clause-masked
returns-clause-masked g c = λ from_word r width rows s. masks_between from_word r width rows s

pub returns-clause-padded : goal.returns-clause-padded
returns-clause-padded g c = λ none width rows. zeros_between none width rows
