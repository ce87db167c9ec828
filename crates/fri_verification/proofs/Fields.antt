-- The record of a field and of its extension, of what the traits of both name.
use Rattle.p3_field_core.specs.declared.element_bytes.ElementBytes.{Ghosts as BytesGhosts}
use Rattle.p3_field_core.specs.declared.extension.ExtensionField.{Ghosts as ExtensionGhosts}
use Rattle.p3_field_core.specs.declared.field.Field.{Ghosts as FieldGhosts}
use Rattle.p3_field_core.specs.declared.prime_field.PrimeField64.{Ghosts as PrimeGhosts}
use Rattle.p3_field_core.specs.declared.two_adic.TwoAdicField.{Ghosts as TwoAdicGhosts}
use Rattle.fri_statement.specs.Setting.{SchemeFields}

abbrev pub fields_of : {F E P Q : Type 0} → FieldGhosts F P → PrimeGhosts F P → TwoAdicGhosts F P
    → BytesGhosts F → FieldGhosts E Q → ExtensionGhosts E F Q P → BytesGhosts E → SchemeFields F E
fields_of base prime two_adic bytes ext over extension_bytes = record {
  relation = record {
    base = base.ops;
    ext = ext.ops;
    lift = over.lift;
    coefficients = over.coefficients;
    degree = over.DIMENSION;
    root = two_adic.root;
    two_adicity = two_adic.TWO_ADICITY;
    shift = base.GENERATOR;
  };
  order = prime.ORDER_U64;
  canonical = prime.canonical;
  of_coefficients = over.of_coefficients;
  bytes = bytes.bytes;
  extension_bytes = extension_bytes.bytes;
}
