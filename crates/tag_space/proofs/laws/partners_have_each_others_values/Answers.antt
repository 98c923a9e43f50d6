-- a pair is of two calls of the history and no call is in two, so each has one partner, for good
use Rattle.tag_space.proofs.PartnerLemmas.{partners_are_calls, pairs_stay, each_gets_one_value}
use Rattle.tag_space.proofs.PartnerLemmas.{paired_is_not_alone, calls_are_by_members}
use Rattle.tag_space.proofs.laws.partners_have_each_others_values.Goals as goal

pub returns-clause-partner : goal.returns-clause-partner
returns-clause-partner c = partners_are_calls

pub returns-clause-stays : goal.returns-clause-stays
returns-clause-stays c = pairs_stay

pub returns-clause-one : goal.returns-clause-one
returns-clause-one c = each_gets_one_value

pub returns-clause-paired : goal.returns-clause-paired
returns-clause-paired c = paired_is_not_alone

pub returns-clause-members : goal.returns-clause-members
returns-clause-members c = calls_are_by_members
