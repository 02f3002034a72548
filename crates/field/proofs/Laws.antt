-- What it means that a record of a width and a polynomial is a field in which α is primitive, law by law; and that every record that
-- passes the tests is one.
-- Assumes nothing.
use mathlib.Core.Path.{◌≡◌}
use mathlib.Core.Logic.{◌≢◌, ◌↔◌}
use Prim.Native.Nat.{ℕ, ◌%◌, ◌<◌}
use Rattle.field.specs.Field.{Field, Element, ◌⊕◌, product, power, α, order}
use Rattle.field.proofs.Sums as Sums
use Rattle.field.proofs.Reducing as Reducing
use Rattle.field.proofs.Products as Products
use Rattle.field.proofs.Orders as Orders
use Rattle.field.proofs.Tests.{Passes, formed}

pub record Laws (F : Field) : Type 0 where
  pub sum_element : {a b : ℕ} → Element F a → Element F b → Element F (a ⊕ b)
  pub sum_comm : (a b : ℕ) → a ⊕ b ≡ b ⊕ a
  pub sum_assoc : (a b c : ℕ) → a ⊕ b ⊕ c ≡ a ⊕ (b ⊕ c)
  pub sum_zero : (a : ℕ) → a ⊕ 0 ≡ a
  pub sum_self : (a : ℕ) → a ⊕ a ≡ 0
  pub product_element : {a : ℕ} (b : ℕ) → Element F a → Element F (product F a b)
  pub product_comm : {a b : ℕ} → Element F a → Element F b → product F a b ≡ product F b a
  pub product_assoc : {a b c : ℕ} → Element F a → Element F b → Element F c → product F (product F a b) c ≡ product F a (product F b c)
  pub product_one : {a : ℕ} → Element F a → product F a 1 ≡ a
  pub product_sum : (a b c : ℕ) → product F a (b ⊕ c) ≡ product F a b ⊕ product F a c
  pub no_zero_divisors : {a b : ℕ} → Element F a → Element F b → product F a b ≡ 0 → a ≢ 0 → b ≡ 0
  pub inverse : {a : ℕ} → Element F a → a ≢ 0 → (b : ℕ) × Element F b × (product F a b ≡ 1)
  pub order_exact : (k : ℕ) → (power F α k ≡ 1) ↔ (k % order F ≡ 0)
  pub powers_distinct : (i j : ℕ) → i < order F → j < order F → power F α i ≡ power F α j → i ≡ j
  pub logarithm : {a : ℕ} → Element F a → a ≢ 0 → (k : ℕ) × (k < order F) × (power F α k ≡ a)

pub laws : (F : Field) → Passes F → Laws F
laws F good =
    record {
      sum_element = Sums.sum_lt F.width;
      sum_comm = Sums.sum_comm;
      sum_assoc = Sums.sum_assoc;
      sum_zero = Sums.sum_zero;
      sum_self = Sums.sum_self;
      product_element = Products.product_element F (formed F good);
      product_comm = Products.product_comm F (formed F good);
      product_assoc = Products.product_assoc F (formed F good);
      product_one = Products.product_one F (formed F good);
      product_sum = Reducing.product_sum F;
      no_zero_divisors = Orders.no_zero_divisors F good;
      inverse = Orders.inverse F good;
      order_exact = Orders.order_exact F good;
      powers_distinct = Orders.powers_distinct F good;
      logarithm = Orders.logarithm F good;
    }
