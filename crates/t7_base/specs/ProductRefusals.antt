-- What a refusal of a product file means.
use Rattle.std.specs.Prelude.{◌≡◌, ℕ, List, Option, Some, codes}
use Rattle.t7_base.specs.ProductFile.{ProductFault}
use Rattle.t7_base.specs.declared.product.ProductWhy.{ProductWhy}
use Rattle.t7_base.specs.declared.product.ProductWhy.TheVariants.{Key, Columns, Number, Duplicate, Missing}
use Rattle.t7_base.specs.declared.product.ProductRefusal.{ProductRefusal}
use Rattle.t7_base.specs.declared.product.ProductRefusal.TheVariants.{Fault, Memory}

-- a refusal names the fault that there is; memory may run out whatever the records are
abbrev pub IsRefusalOf : Option ProductFault → ProductRefusal → Type 0
IsRefusalOf fault (Fault row why) = fault ≡ Some (record { row = row; why = why })
IsRefusalOf fault Memory = Unit {0}

-- the text of each reason
abbrev pub product_text : ProductWhy → List ℕ
product_text Key = codes "key"
product_text Columns = codes "columns"
product_text Number = codes "number"
product_text Duplicate = codes "duplicate"
product_text Missing = codes "missing"
