use Rattle.p3_uni_stark_completeness.proofs.Periodic.{periodic_function, function_of}
use Rattle.p3_uni_stark_completeness.proofs.laws.periodic_columns_law.Goals as goal

pub returns : goal.returns
returns g c F L K M lift H top w W few k t column a size within = (
  periodic_function F L K M lift H top w W k t few column,
  function_of F L K M lift H top w W k t few column a size within,
)
