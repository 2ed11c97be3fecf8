use Rattle.reader.specs.Reading.{place_of}
use Rattle.reader.proofs.Wording.{word_taken}
use Rattle.reader.proofs.line.number.parse.take_word.Goals as goal

pub returns-clause-words : goal.returns-clause-words
returns-clause-words c =
    let made = c.next_word.ensures in
    word_taken (place_of c.args.reader.now) (place_of c.next_word.new.self) _ made.answer made.place
