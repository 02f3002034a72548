-- No second answer meets the contracts of `units`.
-- Assumes nothing.
use mathlib.Core.Path.{◌≡◌, sym, ◌∙◌}
use Rattle.units.specs.Answers.{OneAnswer}
use Rattle.units.proofs.symbols_of.Reads as SymbolsOf
use Rattle.units.proofs.bytes_of.Reads as BytesOf
use Rattle.units.proofs.pages_of.Reads as PagesOf
use Rattle.units.proofs.exponent_of.Reads as ExponentOf
use Rattle.units.proofs.exponent_back.Reads as ExponentBack
use Rattle.units.proofs.n_allowed.Reads as NAllowed
use Rattle.units.proofs.page_allowed.Reads as PageAllowed
use Rattle.units.proofs.object_allowed.Reads as ObjectAllowed
use Rattle.units.proofs.bucket_allowed.Reads as BucketAllowed
use Rattle.units.proofs.caption_allowed.Reads as CaptionAllowed
use Rattle.units.proofs.Refusal.number.Reads as RefusalNumber
use Rattle.units.proofs.Refusal.value.Reads as RefusalValue
use Rattle.units.proofs.put_part.Reads as PutPart

pub symbols_of_one_answer : OneAnswer SymbolsOf.Post
symbols_of_one_answer κs a r s x y p q = λ i. record { count = (p ∙ sym q) i }

pub bytes_of_one_answer : OneAnswer BytesOf.Post
bytes_of_one_answer κs a r s x y p q = λ i. record { count = (p ∙ sym q) i }

pub pages_of_one_answer : OneAnswer PagesOf.Post
pages_of_one_answer κs a r s x y p q = p ∙ sym q

pub exponent_of_one_answer : OneAnswer ExponentOf.Post
exponent_of_one_answer κs a r s x y p q = λ i. record { power = (p ∙ sym q) i }

pub exponent_back_one_answer : OneAnswer ExponentBack.Post
exponent_back_one_answer κs a r s x y p q = λ i. record { power = (p ∙ sym q) i }

pub n_allowed_one_answer : OneAnswer NAllowed.Post
n_allowed_one_answer κs a r s x y p q = p ∙ sym q

pub page_allowed_one_answer : OneAnswer PageAllowed.Post
page_allowed_one_answer κs a r s x y p q = p ∙ sym q

pub object_allowed_one_answer : OneAnswer ObjectAllowed.Post
object_allowed_one_answer κs a r s x y p q = p ∙ sym q

pub bucket_allowed_one_answer : OneAnswer BucketAllowed.Post
bucket_allowed_one_answer κs a r s x y p q = p ∙ sym q

pub caption_allowed_one_answer : OneAnswer CaptionAllowed.Post
caption_allowed_one_answer κs a r s x y p q = p ∙ sym q

pub number_one_answer : OneAnswer RefusalNumber.Post
number_one_answer κs a r s x y p q = p ∙ sym q

pub value_one_answer : OneAnswer RefusalValue.Post
value_one_answer κs a r s x y p q = p ∙ sym q

pub put_part_one_answer : (κs : _) (a : _) (r s : _) (x y : _) → PutPart.Post κs a r x → PutPart.Post κs a s y → x.1.0.now ≡ y.1.0.now
put_part_one_answer κs a r s x y p q = p ∙ sym q
