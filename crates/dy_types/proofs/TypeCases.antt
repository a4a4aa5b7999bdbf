-- What is declared, by what the code keeps of it.
use Rattle.std.proofs.Common.{◌≡◌, sym, subst}
use Rattle.dy_label.specs.Words.{StaticLabel}
use Rattle.dy_types.specs.Claims.{StaticUse}
use Rattle.dy_types.specs.FieldTypes.{Declared, Name, Any, Upto, Secret, Key, Pk, Vk}
use Rattle.dy_types.specs.Tables.{Table, HasTable, TypeHasTable}

module _ (P : Declared → Type 0) where
  pub at_name : (type : Declared) → TypeHasTable type Name → P Name → P type
  at_name Name h p = p
  at_name Any h p = absurd h
  at_name (Upto label) h p = absurd h
  at_name (Secret label) h p = absurd h
  at_name (Key label usage) h p = absurd h
  at_name (Pk label usage) h p = absurd h
  at_name (Vk label usage) h p = absurd h

  pub at_any : (type : Declared) → TypeHasTable type Any → P Any → P type
  at_any Any h p = p
  at_any Name h p = absurd h
  at_any (Upto label) h p = absurd h
  at_any (Secret label) h p = absurd h
  at_any (Key label usage) h p = absurd h
  at_any (Pk label usage) h p = absurd h
  at_any (Vk label usage) h p = absurd h

  pub at_upto : (type : Declared) (table : Table) → TypeHasTable type (Upto table) → ((label : StaticLabel) → HasTable label table → P (Upto label)) → P type
  at_upto (Upto label) table h p = p label h
  at_upto Name table h p = absurd h
  at_upto Any table h p = absurd h
  at_upto (Secret label) table h p = absurd h
  at_upto (Key label usage) table h p = absurd h
  at_upto (Pk label usage) table h p = absurd h
  at_upto (Vk label usage) table h p = absurd h

  pub at_secret : (type : Declared) (table : Table) → TypeHasTable type (Secret table) → ((label : StaticLabel) → HasTable label table → P (Secret label)) → P type
  at_secret (Secret label) table h p = p label h
  at_secret Name table h p = absurd h
  at_secret Any table h p = absurd h
  at_secret (Upto label) table h p = absurd h
  at_secret (Key label usage) table h p = absurd h
  at_secret (Pk label usage) table h p = absurd h
  at_secret (Vk label usage) table h p = absurd h

  pub at_key : (type : Declared) (table : Table) (usage : StaticUse) → TypeHasTable type (Key table usage)
      → ((label : StaticLabel) → HasTable label table → P (Key label usage)) → P type
  at_key (Key label other) table usage h p = subst (λ (u : StaticUse). P (Key label u)) (sym h.1) (p label h.0)
  at_key Name table usage h p = absurd h
  at_key Any table usage h p = absurd h
  at_key (Upto label) table usage h p = absurd h
  at_key (Secret label) table usage h p = absurd h
  at_key (Pk label other) table usage h p = absurd h
  at_key (Vk label other) table usage h p = absurd h

  pub at_pk : (type : Declared) (table : Table) (usage : StaticUse) → TypeHasTable type (Pk table usage)
      → ((label : StaticLabel) → HasTable label table → P (Pk label usage)) → P type
  at_pk (Pk label other) table usage h p = subst (λ (u : StaticUse). P (Pk label u)) (sym h.1) (p label h.0)
  at_pk Name table usage h p = absurd h
  at_pk Any table usage h p = absurd h
  at_pk (Upto label) table usage h p = absurd h
  at_pk (Secret label) table usage h p = absurd h
  at_pk (Key label other) table usage h p = absurd h
  at_pk (Vk label other) table usage h p = absurd h

  pub at_vk : (type : Declared) (table : Table) (usage : StaticUse) → TypeHasTable type (Vk table usage)
      → ((label : StaticLabel) → HasTable label table → P (Vk label usage)) → P type
  at_vk (Vk label other) table usage h p = subst (λ (u : StaticUse). P (Vk label u)) (sym h.1) (p label h.0)
  at_vk Name table usage h p = absurd h
  at_vk Any table usage h p = absurd h
  at_vk (Upto label) table usage h p = absurd h
  at_vk (Secret label) table usage h p = absurd h
  at_vk (Key label other) table usage h p = absurd h
  at_vk (Pk label other) table usage h p = absurd h
