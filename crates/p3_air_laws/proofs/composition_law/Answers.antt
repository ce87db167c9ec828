use Rattle.p3_air_laws.proofs.Composed.{shown_is_satisfied, satisfied_is_shown}
use Rattle.p3_air_laws.proofs.composition_law.Goals as goal

pub returns-clause-shown : goal.returns-clause-shown
returns-clause-shown g c F L K M lift H top w W k b air given shape l m columns has fits alphas distinct enough shown =
    shown_is_satisfied F L K M lift H top w W k b air given l m columns has fits shape alphas
    distinct enough shown

pub returns-clause-satisfied : goal.returns-clause-satisfied
returns-clause-satisfied g c F L K M lift H top w W k b air given l m columns has fits satisfied alpha =
    satisfied_is_shown F L K M lift H top w W k b air given l m columns has fits satisfied alpha
