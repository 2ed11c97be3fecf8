-- Digits so far, and the number that they write.
use Rattle.std.proofs.Common.{◌≡◌, ◌^◌, ◌<◌, drop}
use Rattle.std.specs.Str.Parse.{digits_value as value, digits_value_after}
use Rattle.std.specs.Str.{all_ascii_digits}
use Rattle.reader.proofs.line.number.value_of.Given as goal

abbrev pub invariant-loop-digit : goal.invariant-loop-digit
invariant-loop-digit l = record {
  digits : all_ascii_digits l.text ≡ all_ascii_digits (drop l.digit-index l.text);
  number : value 10 l.text ≡ digits_value_after 10 l.n (drop l.digit-index l.text);
  bound : l.n < 10 ^ l.digit-index;
}
