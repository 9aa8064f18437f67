-- Made by `./format` from formats/coap_message.fields: edit that file and make this one anew.
use Rattle.std.proofs.Common.{refl}
use Rattle.network_messages.proofs.coap_message.Message.number.Goals as goal

pub returns-in-Confirmable : goal.returns-in-Confirmable
returns-in-Confirmable c = rw c.in-Confirmable.is refl

pub returns-in-NonConfirmable : goal.returns-in-NonConfirmable
returns-in-NonConfirmable c = rw c.in-NonConfirmable.is refl

pub returns-in-Acknowledgement : goal.returns-in-Acknowledgement
returns-in-Acknowledgement c = rw c.in-Acknowledgement.is refl

pub returns-in-Reset : goal.returns-in-Reset
returns-in-Reset c = rw c.in-Reset.is refl
