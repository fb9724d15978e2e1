-- `prepare::too_few_words` meets its contract: the file is refused, or work words are missing.
use Rattle.prepare.proofs.Laws.{words_ways}
use Rattle.prepare.proofs.too_few_words.Goals as goal

pub returns-in_err-check_file : goal.returns-in_err-check_file
returns-in_err-check_file c = search (words_ways, c.in_err-check_file.was)

pub returns : goal.returns
returns c = search (words_ways, c.in_ok-check_file.was)
