-- `finish_record::rise` meets its contract.
use Rattle.finish_record.proofs.Rises.{risings}
use Rattle.finish_record.proofs.rise.Goals as goal

pub returns-in-Whole : goal.returns-in-Whole
returns-in-Whole c = search risings

pub returns-in-Kept : goal.returns-in-Kept
returns-in-Kept c = search risings

pub returns-in-Added : goal.returns-in-Added
returns-in-Added c = search risings

pub returns-in-Tested : goal.returns-in-Tested
returns-in-Tested c = search risings

pub returns-in-Passed : goal.returns-in-Passed
returns-in-Passed c = search risings

pub returns-in-Labelled : goal.returns-in-Labelled
returns-in-Labelled c = search risings

pub returns-in-Followed : goal.returns-in-Followed
returns-in-Followed c = search risings

pub returns-in-LastArgument : goal.returns-in-LastArgument
returns-in-LastArgument c = search risings
